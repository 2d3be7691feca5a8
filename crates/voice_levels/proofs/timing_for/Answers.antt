-- `voice_levels::timing_for` meets its contract. Assumes nothing.
use lib.Ieee.{of_bits}
use Rattle.numbers.specs.F32.{decimal}
use Rattle.voice_levels.specs.Levels.{timing_for}
use Rattle.voice_levels.proofs.timing_for.Goals as goal

pub returns : goal.returns
unfolding timing_for decimal of_bits
returns c =
    simp (
      c.pow_2_fast-release_scale.ensures,
      c.f32_abs.ensures,
      c.pow_2_fast-ad_scale.ensures,
      c.u32_as_f32-envelope_rate.ensures,
    )

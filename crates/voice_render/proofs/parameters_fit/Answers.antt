-- `voice_render::parameters_fit` meets its contract. Assumes nothing.
use Rattle.voice_render.specs.Answers.{parameters_fit}
use mathlib.Core.Path.{refl}
use Rattle.numbers.specs.F32.{decimal, minus_decimal}
use lib.Ieee.{of_bits, neg}
use Rattle.voice_render.proofs.parameters_fit.Goals as goal

pub returns : goal.returns
unfolding parameters_fit decimal minus_decimal of_bits neg
returns c =
    rw (
      c.unit_fits-4.ensures,
      c.between.ensures,
      c.unit_fits-3.ensures,
      c.unit_fits-2.ensures,
      c.unit_fits.ensures,
      c.note_fits.ensures,
    ) refl

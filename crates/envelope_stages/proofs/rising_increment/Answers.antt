-- `envelope_stages::rising_increment` meets its contract. Assumes nothing.
use lib.Ieee.{round, of_bits}
use Rattle.numbers.specs.F32.{decimal}
use Rattle.envelope_stages.specs.Stages.{jump}
use Rattle.envelope_stages.specs.Stages.{rising_increment}
use mathlib.Core.Path.{sym}
use Rattle.envelope_stages.proofs.rising_increment.Goals as goal

pub returns-then-low-high : goal.returns-then-low-high
unfolding rising_increment jump decimal round of_bits
returns-then-low-high c = simp (sym c.f32_max-high.ensures, sym c.f32_max-low.ensures, c.if-low-high.true)

pub returns : goal.returns
unfolding rising_increment jump decimal round of_bits
returns c = simp (sym c.f32_max-high.ensures, sym c.f32_max-low.ensures, c.if-low-high.false)

-- `voice_levels::brightness_of` meets its contract. Assumes nothing.
use mathlib.Core.Path.{sym, ◌∙◌}
use lib.Ieee.{of_bits}
use Rattle.numbers.specs.F32.{decimal}
use Rattle.voice_levels.specs.Levels.{brightness_of}
use Rattle.voice_levels.proofs.brightness_of.Goals as goal

pub returns-then-is_modulating : goal.returns-then-is_modulating
unfolding brightness_of decimal of_bits
returns-then-is_modulating c = simp (sym c.is_modulating.ensures ∙ c.if-is_modulating.true)

pub returns : goal.returns
unfolding brightness_of decimal of_bits
returns c = simp (sym c.is_modulating.ensures ∙ c.if-is_modulating.false)

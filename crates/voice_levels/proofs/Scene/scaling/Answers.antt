-- `voice_levels::Scene::scaling` meets its contract. Assumes nothing.
use lib.Ieee.{of_bits}
use Rattle.numbers.specs.F32.{decimal}
use Rattle.voice_levels.specs.Levels.{scaling_of}
use Rattle.voice_levels.proofs.Scene.scaling.Goals as goal

pub returns : goal.returns
unfolding scaling_of decimal of_bits
returns c =
    simp (c.f32_min.ensures, c.brightness_of-brightness.ensures, c.keyboard_scaling-kb_scaling.ensures)

-- `voice_levels::Scene::raise_operators` meets its contract. The loop's invariant: the levels are what the first i operators
-- make of the start.
-- Assumes nothing.
use mathlib.Core.Path.{◌≡◌}
use Rattle.voice_levels.specs.Levels.{raised_to}
use Rattle.voice_levels.proofs.Scene.raise_operators.Given as goal

abbrev pub invariant-loop-i : goal.invariant-loop-i
invariant-loop-i l =
    l.l ≡ raised_to l.self l.fn.op l.ratios l.level_headroom l.row l.operator_envelope l.i

-- `voice_levels::Scene::amplitudes_of` meets its contract. The loop's invariant: the numbers are what the first i amplitudes
-- make of the levels. Assumes nothing.
use mathlib.Core.Path.{◌≡◌}
use Rattle.voice_levels.specs.Levels.{amplitudes_to}
use Rattle.voice_levels.proofs.Scene.amplitudes_of.Given as goal

abbrev pub invariant-loop-i : goal.invariant-loop-i
invariant-loop-i l = l.l ≡ amplitudes_to l.self l.fn.op l.initial.l l.i

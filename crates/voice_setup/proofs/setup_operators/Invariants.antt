-- `voice_setup::setup_operators` meets its contract. Assumes nothing.
use mathlib.Core.Path.{◌≡◌}
use Rattle.voice_setup.specs.Setup.{set_up_to}
use Rattle.voice_setup.proofs.setup_operators.Given as goal

abbrev pub invariant-loop-i : goal.invariant-loop-i
invariant-loop-i l = l.s ≡ set_up_to l.high l.low l.fn.op l.i l.initial.s

-- From here on the walk of `envelope_inner::reach` ends where the whole one does.
use mathlib.Core.Path.{◌≡◌}
use Prim.Native.Nat.{◌-◌}
use Rattle.envelope_inner.specs.Scrub.{reached}
use Rattle.envelope_inner.proofs.reach.Given as goal

abbrev pub invariant-loop-stage : goal.invariant-loop-stage
invariant-loop-stage l = reached (3 - l.stage) l.stage l.fn.increments l.t ≡ reached 3 0 l.fn.increments l.fn.t

-- `algorithms::compile_calls` meets its contract. The loop's invariant: the walk from here on gives the whole answer,
-- and the flags say which buffers are ready. Assumes nothing.
use mathlib.Core.Path.{◌≡◌}
use Prim.Native.Nat.{◌-◌, ◌≤◌}
use lib.ListN.{length, drop}
use Rattle.algorithms.specs.Plan.{no_plan, plan_from}
use Rattle.algorithms.proofs.Steps.{Flags}
use Rattle.algorithms.proofs.compile_calls.Given as goal

abbrev pub invariant-loop-first : goal.invariant-loop-first
invariant-loop-first l = record {
  size : length l.flags ≡ 4;
  slots : length l.plan.calls ≡ 6;
  fewer : l.plan.count ≤ l.first;
  past : l.first ≤ length l.row;
  shown : Flags l.flags l.plan.calls l.plan.count;
  rest : plan_from (length l.row) 0 l.first l.plan (drop l.first l.row) ≡ plan_from (length l.row) 0 0 no_plan l.row;
}

abbrev pub decreases-loop-first : goal.decreases-loop-first
decreases-loop-first l = length l.row - l.first

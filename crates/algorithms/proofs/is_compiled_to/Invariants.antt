-- `algorithms::is_compiled_to` meets its contract. The loop's invariant: the walk from here on, with the plan's first k
-- calls behind it, gives the whole answer, and the flags say which buffers are ready. Assumes nothing.
use mathlib.Core.Path.{◌≡◌}
use Prim.Native.Nat.{◌+◌, ◌-◌, ◌≤◌}
use lib.ListN.{length, drop}
use Rattle.algorithms.specs.Plan.{no_plan, plan_from, same_calls, is_plan}
use Rattle.algorithms.proofs.Steps.{Flags}
use Rattle.algorithms.proofs.Together.{first_calls}
use Rattle.algorithms.proofs.is_compiled_to.Given as goal

abbrev pub invariant-loop-first : goal.invariant-loop-first
invariant-loop-first l = record {
  size : length l.ready ≡ 4;
  fewer : l.k ≤ l.first;
  past : l.first ≤ length l.row;
  shown : Flags l.ready (first_calls l.k l.plan).calls (first_calls l.k l.plan).count;
  rest : plan_from (length l.row) 0 l.first (first_calls l.k l.plan) (drop l.first l.row)
      ≡ plan_from (length l.row) 0 0 no_plan l.row;
}

abbrev pub decreases-loop-first : goal.decreases-loop-first
decreases-loop-first l = length l.row - l.first

-- behind the walk, the plan's calls from here on decide
abbrev pub invariant-loop-d : goal.invariant-loop-d
invariant-loop-d l =
    same_calls (drop (l.k + l.d-index) no_plan.calls) (drop l.d-index l.d-items)
    ≡ is_plan (plan_from (length l.row) 0 0 no_plan l.row) l.plan

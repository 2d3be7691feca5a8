-- A row's plan: its calls, and when the row is refused. To be believed.
use Rattle.std.specs.Prelude.{ℕ, zero, suc, ◌+◌, ◌-◌, Bool, true, false, cond, not, ◌&&◌, ◌||◌}
use Rattle.std.specs.Prelude.{List, [], ◌∷◌, eqb, get_or, take, set, Result, Ok, Err}
use Rattle.std.specs.Bool.{beq}
use Rattle.algorithms.specs.Opcode.{destination, adding, source}
use Rattle.algorithms.specs.Chain.{rendered}
use Rattle.algorithms.specs.declared.Call.{Call}
use Rattle.algorithms.specs.declared.Plan.{Plan}
use Rattle.refusals.specs.declared.Refusal.{Refusal}
use Rattle.refusals.specs.declared.Refusal.TheVariants.{WrongTable, NoRenderer, UnsetBuffer}

-- the zero call, and the zero plan
abbrev pub no_call : Call
no_call = record { first = 0; n = 0; input = 0; output = 0; add = false }

abbrev pub no_plan : Plan
no_plan = record { count = 0; calls = no_call ∷ no_call ∷ no_call ∷ no_call ∷ no_call ∷ no_call ∷ [] }

-- the call of n operators from `first` on; `os` is the row from there on. Its input is its first operator's source; it
-- writes as its last operator says
unfoldable pub call_of : ℕ → ℕ → List ℕ → Call
call_of first n os = record {
  first = first;
  n = n;
  input = source (get_or os 0 0);
  output = destination (get_or os (n - 1) 0);
  add = adding (get_or os (n - 1) 0);
}

-- a call reads a buffer where its source is 1 or 2
unfoldable pub reading : Call → Bool
reading c = eqb c.input 1 || eqb c.input 2

-- buffer q is the output, or one of the first k calls has set it
unfoldable pub ready : List Call → ℕ → ℕ → Bool
ready cs zero q = eqb q 0
ready cs (suc k) q = (eqb q (get_or cs k no_call).output && not (get_or cs k no_call).add) || ready cs k q

-- the call reads or adds to a scratch buffer that no earlier call has set; `is_ready` says which buffers are ready
unfoldable pub unready : (ℕ → Bool) → Call → Bool
unready is_ready c = (reading c && not (is_ready c.input)) || (c.add && not (is_ready c.output))

-- the plan with one call more
unfoldable pub extended : Plan → Call → Plan
extended p c = record { count = p.count + 1; calls = set p.calls p.count c }

-- the row from operator `first` on, where the plan has the calls before it, and `inside` operators belong to the last
-- of these. The first faulty call decides; in one call 3 comes before 4
unfoldable pub plan_from : ℕ → ℕ → ℕ → Plan → List ℕ → Result Plan Refusal
plan_from operators inside first p [] = Ok p
plan_from operators (suc inside) first p (o ∷ os) = plan_from operators inside (suc first) p os
plan_from operators zero first p (o ∷ os) =
    let n = rendered operators (o ∷ os) in
    let c = call_of first n (o ∷ os) in
    cond (eqb n 0) (Err (NoRenderer first))
    (cond (unready (ready p.calls p.count) c) (Err (UnsetBuffer first))
    (plan_from operators (n - 1) (suc first) (extended p c) os))

-- operators are 4 or 6
unfoldable pub counted : ℕ → Bool
counted operators = eqb operators 4 || eqb operators 6

-- what a row of six bytes, of which the first `operators` count, is compiled to
unfoldable pub planned : ℕ → List ℕ → Result Plan Refusal
planned operators row =
    cond (counted operators) (plan_from operators 0 0 no_plan (take operators row)) (Err WrongTable)

-- two plans are the same, field by field and call by call
unfoldable pub same_call : Call → Call → Bool
same_call c d =
    eqb c.first d.first
    && (eqb c.n d.n
    && (eqb c.input d.input
    && (eqb c.output d.output
    && beq c.add d.add)))

unfoldable pub same_calls : List Call → List Call → Bool
same_calls [] [] = true
same_calls [] (d ∷ ds) = false
same_calls (c ∷ cs) [] = false
same_calls (c ∷ cs) (d ∷ ds) = same_call c d && same_calls cs ds

unfoldable pub same_plan : Plan → Plan → Bool
same_plan p q = eqb p.count q.count && same_calls p.calls q.calls

-- an answer is a plan, and this one
unfoldable pub is_plan : Result Plan Refusal → Plan → Bool
is_plan (Ok p) plan = same_plan p plan
is_plan (Err e) plan = false

-- a row is accepted, and this is its plan
unfoldable pub is_plan_of : ℕ → List ℕ → Plan → Bool
is_plan_of operators row plan = is_plan (planned operators row) plan

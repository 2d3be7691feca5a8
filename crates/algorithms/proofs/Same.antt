-- The test of two plans says whether they are equal.
-- Assumes nothing.
use mathlib.Core.Path.{◌≡◌, refl, ap}
use mathlib.Core.Bool.{Bool, true, false, ◌&&◌, beq, false≢true, and-eq-true_iff}
use Prim.Native.Nat.{ℕ}
use mathlib.Core.List.{List, [], ◌∷◌}
use lib.Dec.{eqb}
use borrow.Author.Tests.{eqb-true, eq-eqb}
use lib.Pointwise.{pointwise}
use Rattle.std.specs.Prelude.{Result, Ok, Err}
use Rattle.std.specs.Result.{result_eq}
use Rattle.refusals.specs.declared.Refusal.{Refusal}
use Rattle.refusals.specs.contracts.RefusalPartialEq as RefusalEq
use Rattle.algorithms.specs.contracts.CallPartialEq as CallEq
use Rattle.algorithms.specs.contracts.PlanPartialEq as PlanEq
use Rattle.algorithms.specs.Plan.{same_call, same_calls, same_plan, is_plan}
use Rattle.algorithms.specs.declared.Call.{Call}
use Rattle.algorithms.specs.declared.Plan.{Plan}

beq_equal : (a b : Bool) → beq a b ≡ true → a ≡ b
beq_equal true true e = refl
beq_equal true false e = absurd (false≢true e)
beq_equal false true e = absurd (false≢true e)
beq_equal false false e = refl

beq_same : (a : Bool) → beq a a ≡ true
beq_same true = refl
beq_same false = refl

-- calls and plans with equal fields are equal
call_equal : (f f' n n' i i' o o' : ℕ) (a a' : Bool) → f ≡ f' → n ≡ n' → i ≡ i' → o ≡ o' → a ≡ a'
    → ◌≡◌ {A =
    Call} (record { first = f; n = n; input = i; output = o; add = a }) (record
    { first = f'; n = n'; input = i'; output = o'; add = a' })
call_equal f f' n n' i i' o o' a a' x₁ x₂ x₃ x₄ x₅ = rw (x₁, x₂, x₃, x₄, x₅)

plan_equal : (n n' : ℕ) (cs ds : List Call) → n ≡ n' → cs ≡ ds → ◌≡◌ {A =
    Plan} (record { count = n; calls = cs }) (record { count = n'; calls = ds })
plan_equal n n' cs ds x y = rw (x, y)

pub same_call_equal : (c d : Call) → same_call c d ≡ true → c ≡ d
unfolding same_call
same_call_equal c d e =
    let e₁ = (and-eq-true_iff (eqb c.first d.first) _).0 e in
    let e₂ = (and-eq-true_iff (eqb c.n d.n) _).0 e₁.1 in
    let e₃ = (and-eq-true_iff (eqb c.input d.input) _).0 e₂.1 in
    let e₄ = (and-eq-true_iff (eqb c.output d.output) _).0 e₃.1 in
    let x₁ = eqb-true c.first d.first e₁.0 in
    let x₂ = eqb-true c.n d.n e₂.0 in
    let x₃ = eqb-true c.input d.input e₃.0 in
    let x₄ = eqb-true c.output d.output e₄.0 in
    call_equal _ _ _ _ _ _ _ _ _ _ x₁ x₂ x₃ x₄ (beq_equal c.add d.add e₄.1)

same_calls_equal : (cs ds : List Call) → same_calls cs ds ≡ true → cs ≡ ds
unfolding same_calls
same_calls_equal [] [] e = refl
same_calls_equal [] (d ∷ ds) e = absurd (false≢true e)
same_calls_equal (c ∷ cs) [] e = absurd (false≢true e)
same_calls_equal (c ∷ cs) (d ∷ ds) e =
    let h = (and-eq-true_iff (same_call c d) (same_calls cs ds)).0 e in
    let x = same_call_equal c d h.0 in
    let y = same_calls_equal cs ds h.1 in
    cc

-- plans that the test calls the same are equal
pub same_plan_equal : (p q : Plan) → same_plan p q ≡ true → p ≡ q
unfolding same_plan
same_plan_equal p q e =
    let h = (and-eq-true_iff (eqb p.count q.count) (same_calls p.calls q.calls)).0 e in
    let x = eqb-true p.count q.count h.0 in
    let y = same_calls_equal p.calls q.calls h.1 in
    plan_equal _ _ _ _ x y

pub same_call_self : (c : Call) → same_call c c ≡ true
unfolding same_call
same_call_self c = rw (
  eq-eqb c.first c.first refl,
  eq-eqb c.n c.n refl,
  eq-eqb c.input c.input refl,
  eq-eqb c.output
      c.output refl,
) (beq_same c.add)

same_calls_self : (cs : List Call) → same_calls cs cs ≡ true
unfolding same_calls
same_calls_self [] = refl
same_calls_self (c ∷ cs) = rw (same_call_self c) (same_calls_self cs)

-- and a plan is the same as itself
pub same_plan_self : (p : Plan) → same_plan p p ≡ true
unfolding same_plan
same_plan_self p = rw (eq-eqb p.count p.count refl) (same_calls_self p.calls)

-- ---- the derived tests are the definition's

-- of two calls it is so by computing
calls_same : (cs ds : List Call) → pointwise (CallEq.TheImpl.eq-value).it cs ds ≡ same_calls cs ds
unfolding same_call same_calls
calls_same [] [] = refl
calls_same [] (d ∷ ds) = refl
calls_same (c ∷ cs) [] = refl
calls_same (c ∷ cs) (d ∷ ds) = ap (λ (b : Bool). same_call c d && b) (calls_same cs ds)

pub derived_same : (p q : Plan) → (PlanEq.TheImpl.eq-value).it p q ≡ same_plan p q
unfolding same_plan
derived_same p q = ap (λ (b : Bool). eqb p.count q.count && b) (calls_same p.calls q.calls)

pub derived_plan : (r : Result Plan Refusal) (q : Plan)
    → result_eq (PlanEq.TheImpl.eq-value).it (RefusalEq.TheImpl.eq-value).it r (Ok q) ≡ is_plan r q
unfolding is_plan
derived_plan (Ok p) q = derived_same p q
derived_plan (Err e) q = refl

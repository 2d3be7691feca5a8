-- `algorithms::is_compiled_to` meets its contract. Assumes nothing.
use mathlib.Core.Path.{◌≡◌, refl, sym, ap, ◌∙◌}
use mathlib.Core.List.{List}
use Prim.Native.Nat.{ℕ}
use native.Mathlib.Nat.{add-zero}
use native.Mathlib.Omega.{arith}
use lib.ListN.{length, length-drop, length-set}
use Rattle.std.specs.Prelude.{Result}
use Rattle.std.proofs.Common.{rules}
use Rattle.algorithms.specs.Chain.{rendered, some}
use Rattle.algorithms.specs.Plan.{is_plan}
use Rattle.algorithms.specs.declared.Plan.{Plan}
use Rattle.refusals.specs.declared.Refusal.{Refusal}
use Rattle.algorithms.proofs.Lengths.{none_is}
use Rattle.algorithms.proofs.Steps.{flags_start, lacking_at, unready_at, step_at, done_at, from_on, found, called}
use Rattle.algorithms.proofs.Steps.{called_n, next_at, call_input, call_output, flags_test}
use Rattle.algorithms.proofs.Together.{first_calls, first_none, first_next, other_count, own_count}
use Rattle.algorithms.proofs.Together.{no_plan_of, other_call, differing, same, flags_next, behind_are, behind_length}
use Rattle.algorithms.proofs.Together.{some_behind, none_behind, all_behind}
use Rattle.algorithms.proofs.is_compiled_to.Goals as goal

pub loop-first-init : goal.loop-first-init
loop-first-init c = rw (first_none c.args.plan.now) (record {
  size = refl;
  fewer = omega arith;
  past = omega arith;
  shown = flags_start _;
  rest = refl;
})

pub returns-in_default : goal.returns-in_default
returns-in_default c =
    let e = sym c.in_default.is ∙ c.rendered_length.ensures ∙ ap (λ (l : List ℕ). some (rendered (length
    c.args.row.now) l)) (from_on c.loop-first.first c.args.row.now) in
    no_plan_of _ c.args.plan.now
    (lacking_at _ _ _ (omega (arith, length-drop c.loop-first.first c.args.row.now))
    (first_calls c.loop-first.k c.args.plan.now) (none_is _ e) ∙ c.loop-first.invariant.rest)

pub call_of-c-requires : goal.call_of-c-requires
call_of-c-requires c =
    let f = found c.loop-first.first c.in-Some.n c.args.row.now c.loop-first-test.true c.rendered_length.ensures
    c.in-Some.is in (
      f.one,
      rw (from_on c.loop-first.first c.args.row.now) (omega (
        arith,
        length-drop c.loop-first.first
            c.args.row.now,
      )),
      omega arith,
    )

pub is_unready-requires : goal.is_unready-requires
is_unready-requires c = (call_input _ _ _ _ c.call_of-c.ensures, call_output _ _ _ _ c.call_of-c.ensures)

pub returns-then-is_unready : goal.returns-then-is_unready
returns-then-is_unready c =
    let f = found c.loop-first.first c.in-Some.n c.args.row.now c.loop-first-test.true c.rendered_length.ensures
    c.in-Some.is in
    let e = called c.loop-first.first c.in-Some.n c.args.row.now c.call_of-c.ensures in
    let t = flags_test c.loop-first.ready _ _ _ _ _ _ c.is_unready.ensures e c.loop-first.invariant.shown in
    no_plan_of _ c.args.plan.now
    (unready_at _ _ _ (omega (arith, length-drop c.loop-first.first c.args.row.now))
    (first_calls c.loop-first.k c.args.plan.now) _ f.is f.one _ e (sym t ∙ c.if-is_unready.true)
    ∙ c.loop-first.invariant.rest)

pub returns-then-ne : goal.returns-then-ne
returns-then-ne c =
    let l : length c.args.plan.now.calls ≡ 6 = search rules in
    let f = found c.loop-first.first c.in-Some.n c.args.row.now c.loop-first-test.true c.rendered_length.ensures
    c.in-Some.is in
    let e = called c.loop-first.first c.in-Some.n c.args.row.now c.call_of-c.ensures in
    let t = flags_test c.loop-first.ready _ _ _ _ _ _ c.is_unready.ensures e c.loop-first.invariant.shown in
    other_call _ _ _ c.args.plan.now c.loop-first.k _ _ l (omega arith)
    (step_at _ _ _ (omega (arith, length-drop c.loop-first.first c.args.row.now))
    (first_calls c.loop-first.k c.args.plan.now) _ f.is f.one _ e (sym t ∙ c.if-is_unready.false)
    ∙ c.loop-first.invariant.rest)
    (differing _ _ c.ne.ensures c.if-ne.true)

pub bounds-ready-c : goal.bounds-ready-c
bounds-ready-c c = call_output _ _ _ _ c.call_of-c.ensures

pub overflow_add-first : goal.overflow_add-first
overflow_add-first c =
    let f = found c.loop-first.first c.in-Some.n c.args.row.now c.loop-first-test.true c.rendered_length.ensures
    c.in-Some.is in
    omega (arith, called_n _ _ _ c.call_of-c.ensures)

pub loop-first-smaller : goal.loop-first-smaller
loop-first-smaller c =
    let f = found c.loop-first.first c.in-Some.n c.args.row.now c.loop-first-test.true c.rendered_length.ensures
    c.in-Some.is in
    omega (arith, called_n _ _ _ c.call_of-c.ensures)

pub loop-first-preserved : goal.loop-first-preserved
loop-first-preserved c =
    let l : length c.args.plan.now.calls ≡ 6 = search rules in
    let f = found c.loop-first.first c.in-Some.n c.args.row.now c.loop-first-test.true c.rendered_length.ensures
    c.in-Some.is in
    let e = called c.loop-first.first c.in-Some.n c.args.row.now c.call_of-c.ensures in
    let m = called_n _ _ _ e in
    let t = flags_test c.loop-first.ready _ _ _ _ _ _ c.is_unready.ensures e c.loop-first.invariant.shown in
    let plan = c.args.plan.now in
    let k = c.loop-first.k in
    let d = same _ _ c.ne.ensures c.if-ne.false in
    record {
      size = simp length-set c.loop-first.invariant.size;
      fewer = omega arith;
      past = omega arith;
      shown =
          flags_next plan l k c.loop-first.ready _ c.loop-first.invariant.size (omega arith) (call_output _ _ _ _ e)
          (sym t ∙ c.if-is_unready.false) d c.loop-first.invariant.shown;
      rest =
          rw (← first_next plan l k (omega arith) _ d)
          (next_at _ c.loop-first.first _ c.in-Some.n _ c.args.row.now m
          (step_at _ _ _ (omega (arith, length-drop c.loop-first.first c.args.row.now)) (first_calls k plan) _ f.is
          f.one _ e (sym t ∙ c.if-is_unready.false) ∙ c.loop-first.invariant.rest));
    }

pub returns-then-plan-k : goal.returns-then-plan-k
returns-then-plan-k c =
    other_count c.args.plan.now (search rules) c.loop-first.k c.if-plan-k.true
    ∙ ap (λ (r : Result Plan Refusal). is_plan r c.args.plan.now)
    (done_at _ _ _ (first_calls c.loop-first.k c.args.plan.now) c.loop-first-test.false ∙ c.loop-first.invariant.rest)

pub loop-d-init : goal.loop-d-init
loop-d-init c =
    let l : length c.args.plan.now.calls ≡ 6 = search rules in
    rw (add-zero, behind_are c.args.plan.now l c.loop-first.k)
    (own_count c.args.plan.now l c.loop-first.k (omega arith) c.if-plan-k.false
    ∙ ap (λ (r : Result Plan Refusal). is_plan r c.args.plan.now)
    (done_at _ _ _ (first_calls c.loop-first.k c.args.plan.now) c.loop-first-test.false ∙ c.loop-first.invariant.rest))

pub returns-then-ne-2 : goal.returns-then-ne-2
returns-then-ne-2 c =
    let l : length c.args.plan.now.calls ≡ 6 = search rules in
    some_behind _ _ _ _ c.loop-d-test.true (omega (arith, behind_length c.args.plan.now l c.loop-first.k))
    (differing _ _ c.ne-in-loop-d.ensures c.if-ne-2.true) ∙ c.loop-d.invariant

pub loop-d-preserved : goal.loop-d-preserved
loop-d-preserved c =
    let l : length c.args.plan.now.calls ≡ 6 = search rules in
    none_behind _ _ _ _ c.loop-d-test.true (omega (arith, behind_length c.args.plan.now l c.loop-first.k))
    (same _ _ c.ne-in-loop-d.ensures c.if-ne-2.false) _ (omega arith) ∙ c.loop-d.invariant

pub returns : goal.returns
returns c =
    let l : length c.args.plan.now.calls ≡ 6 = search rules in
    all_behind _ _ _ c.loop-d-test.false (omega (arith, behind_length c.args.plan.now l c.loop-first.k))
    ∙ c.loop-d.invariant

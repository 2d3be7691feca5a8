-- `algorithms::compile_calls` meets its contract. Assumes nothing.
use mathlib.Core.Path.{refl, sym, ap, ◌∙◌}
use mathlib.Core.List.{List}
use Prim.Native.Nat.{ℕ}
use native.Mathlib.Omega.{arith}
use lib.ListN.{length, length-drop, length-set}
use Rattle.algorithms.specs.Chain.{rendered, some}
use Rattle.algorithms.specs.Plan.{extended}
use Rattle.algorithms.proofs.Lengths.{none_is}
use Rattle.algorithms.proofs.Steps.{flags_start, lacking_at, unready_at, step_at, done_at, from_on, found, called}
use Rattle.algorithms.proofs.Steps.{called_n, next_at, call_input, call_output, flags_test, flags_more}
use Rattle.algorithms.proofs.compile_calls.Goals as goal

pub loop-first-init : goal.loop-first-init
loop-first-init c = rw c.no_plan-plan.ensures (record {
  size = refl;
  slots = refl;
  fewer = omega arith;
  past = omega arith;
  shown = flags_start _;
  rest = refl;
})

pub returns-in_default : goal.returns-in_default
returns-in_default c =
    let e = sym c.in_default.is ∙ c.rendered_length.ensures ∙ ap (λ (l : List ℕ). some (rendered (length
    c.args.row.now) l)) (from_on c.loop-first.first c.args.row.now) in
    lacking_at _ _ _ (omega (arith, length-drop c.loop-first.first c.args.row.now)) c.loop-first.plan (none_is _ e) ∙
    c.loop-first.invariant.rest

pub call_of-c-requires : goal.call_of-c-requires
call_of-c-requires c =
    let f = found c.loop-first.first c.in-Some.n c.args.row.now c.loop-first-test.true c.rendered_length.ensures
    c.in-Some.is in (
      f.one,
      rw (from_on c.loop-first.first c.args.row.now) (omega (
        arith,
        length-drop c.loop-first.first
            c.args.row.now,
      )),
      omega arith,
    )

pub is_unready-requires : goal.is_unready-requires
is_unready-requires c = (call_input _ _ _ _ c.call_of-c.ensures, call_output _ _ _ _ c.call_of-c.ensures)

pub returns-then-is_unready : goal.returns-then-is_unready
returns-then-is_unready c =
    let f = found c.loop-first.first c.in-Some.n c.args.row.now c.loop-first-test.true c.rendered_length.ensures
    c.in-Some.is in
    let e = called c.loop-first.first c.in-Some.n c.args.row.now c.call_of-c.ensures in
    let t = flags_test c.loop-first.flags _ _ _ _ _ _ c.is_unready.ensures e c.loop-first.invariant.shown in
    unready_at _ _ _ (omega (arith, length-drop c.loop-first.first c.args.row.now)) c.loop-first.plan _ f.is f.one _ e
    (sym t ∙ c.if-is_unready.true) ∙ c.loop-first.invariant.rest

pub bounds-flags-c : goal.bounds-flags-c
bounds-flags-c c = call_output _ _ _ _ c.call_of-c.ensures

pub overflow_add-first : goal.overflow_add-first
overflow_add-first c =
    let f = found c.loop-first.first c.in-Some.n c.args.row.now c.loop-first-test.true c.rendered_length.ensures
    c.in-Some.is in
    omega (arith, called_n _ _ _ c.call_of-c.ensures)

pub loop-first-smaller : goal.loop-first-smaller
loop-first-smaller c =
    let f = found c.loop-first.first c.in-Some.n c.args.row.now c.loop-first-test.true c.rendered_length.ensures
    c.in-Some.is in
    omega (arith, called_n _ _ _ c.call_of-c.ensures)

pub loop-first-preserved : goal.loop-first-preserved
unfolding extended
loop-first-preserved c =
    let f = found c.loop-first.first c.in-Some.n c.args.row.now c.loop-first-test.true c.rendered_length.ensures
    c.in-Some.is in
    let e = called c.loop-first.first c.in-Some.n c.args.row.now c.call_of-c.ensures in
    let m = called_n _ _ _ e in
    let t = flags_test c.loop-first.flags _ _ _ _ _ _ c.is_unready.ensures e c.loop-first.invariant.shown in
    record {
      size = simp length-set c.loop-first.invariant.size;
      slots = simp length-set c.loop-first.invariant.slots;
      fewer = omega arith;
      past = omega arith;
      shown =
          flags_more c.loop-first.flags _ _ _ c.loop-first.invariant.size (omega arith) (call_output _ _ _ _ e)
          (sym t ∙ c.if-is_unready.false) c.loop-first.invariant.shown;
      rest =
          next_at _ c.loop-first.first _ c.in-Some.n _ c.args.row.now m
          (step_at _ _ _ (omega (arith, length-drop c.loop-first.first c.args.row.now)) c.loop-first.plan _ f.is f.one
          _ e (sym t ∙ c.if-is_unready.false) ∙ c.loop-first.invariant.rest);
    }

pub returns : goal.returns
returns c = done_at _ _ _ c.loop-first.plan c.loop-first-test.false ∙ c.loop-first.invariant.rest

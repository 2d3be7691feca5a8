-- A row and a plan walked together: a plan's first calls, and what each test of the walk says of the whole row.
-- Assumes nothing.
use mathlib.Core.Path.{◌≡◌, refl, sym, ap, subst, ◌∙◌}
use mathlib.Core.Bool.{Bool, true, false, not, ◌&&◌, true≢false}
use Prim.Native.Nat.{ℕ, zero, suc, ◌+◌, ◌-◌, ◌≤◌, ◌<◌}
use native.Mathlib.Numerals.{add-one}
use native.Mathlib.Omega.{arith}
use mathlib.Core.List.{List, [], ◌∷◌, ◌++◌}
use lib.ListN.{length, get_or, set, take, drop, length-drop, drop_of_length-le}
use lib.Seq.{take_all, drop-cons, paste-suc, length-paste, get_or-set_same, get_or-set_other}
use borrow.Author.Tests.{eq-eqb, ne_eqb}
use Rattle.std.specs.Prelude.{Result, Ok, Err}
use Rattle.refusals.specs.declared.Refusal.{Refusal}
use Rattle.algorithms.specs.contracts.CallPartialEq as CallEq
use Rattle.algorithms.specs.Chain.{rendered}
use Rattle.algorithms.specs.Plan.{no_call, no_plan, call_of, ready, unready, extended, plan_from}
use Rattle.algorithms.specs.Plan.{same_call, same_calls, same_plan, is_plan}
use Rattle.algorithms.specs.declared.Call.{Call}
use Rattle.algorithms.specs.declared.Plan.{Plan}
use Rattle.algorithms.proofs.Steps.{Flags, at_call, flags_more}
use Rattle.algorithms.proofs.Same.{same_call_self, same_call_equal, same_plan_equal}

-- ---- a plan's first calls

-- the plan of a plan's first k calls
unfoldable pub first_calls : ℕ → Plan → Plan
first_calls k p = record { count = k; calls = take k p.calls ++ drop k no_plan.calls }

pub first_none : (p : Plan) → first_calls 0 p ≡ no_plan
unfolding first_calls
first_none p = refl

module _ (p : Plan) (l : length p.calls ≡ 6) (k : ℕ) where
  pub first_slots : k ≤ 6 → length (first_calls k p).calls ≡ 6
  unfolding first_calls
  first_slots h =
      let z : 0 + k ≡ k = omega arith in
      let w : length (take k p.calls ++ drop (0 + k) no_plan.calls) ≡ 6 = length-paste no_plan.calls 0 p.calls k
      (omega arith) (omega arith) in
      rw z at w

  -- one more of them
  pub first_next : k < 6 → (c : Call) → c ≡ get_or p.calls k no_call
      → extended (first_calls k p) c ≡ first_calls (k + 1) p
  unfolding first_calls extended
  first_next h c e =
      let z : 0 + k ≡ k = omega arith in
      let y : 0 + suc k ≡ suc k = omega arith in
      let w : set (take k p.calls ++ drop (0 + k) no_plan.calls) (0 + k) (get_or p.calls k no_call)
      ≡ take (suc k) p.calls ++ drop (0 + suc k) no_plan.calls = paste-suc no_plan.calls 0 p.calls k no_call
      (omega arith) (omega arith) in
      let v = rw (z, y) at w in
      rw (e, add-one k, v) refl

  pub flags_next : (flags : List Bool) (c : Call) → length flags ≡ 4 → k < 6 → c.output < 4
      → unready (ready (first_calls k p).calls (first_calls k p).count) c ≡ false → c ≡ get_or p.calls k no_call
      → Flags flags (first_calls k p).calls (first_calls k p).count
      → Flags (set flags c.output true) (first_calls (k + 1) p).calls (first_calls (k + 1) p).count
  unfolding extended
  flags_next flags c f h o u e s =
      subst (λ q. Flags (set flags c.output true) q.calls q.count) (first_next h c e)
      (flags_more flags (first_calls k p).calls (first_calls k p).count c f
      (unfold first_calls in omega (arith, first_slots (omega arith))) o u s)

-- what the derived test of two calls says
module _ {b : Bool} (c d : Call) (e : b ≡ not ((CallEq.TheImpl.eq-value).it c d)) where
  pub differing : b ≡ true → same_call c d ≡ false
  unfolding same_call
  differing h = pick (same_call c d) (sym e ∙ h)
    where
      pick : (a : Bool) → not a ≡ true → a ≡ false
      pick true z = sym z
      pick false z = refl

  pub same : b ≡ false → c ≡ d
  unfolding same_call
  same h = same_call_equal c d (pick (same_call c d) (sym e ∙ h))
    where
      pick : (a : Bool) → not a ≡ false → a ≡ true
      pick true z = refl
      pick false z = sym z

-- what stands behind a list's first k calls decides
same_behind : (k : ℕ) (cs ds : List Call) → k ≤ length cs
    → same_calls (take k cs ++ ds) cs ≡ same_calls ds (drop k cs)
unfolding same_calls
same_behind zero cs ds h = refl
same_behind (suc k) [] ds h = absurd (omega arith)
same_behind (suc k) (c ∷ cs) ds h = rw (same_call_self c) (same_behind k cs ds (omega arith))

-- a plan that is its first k calls has that count, and the calls behind decide
module _ (p : Plan) (l : length p.calls ≡ 6) (k : ℕ) where
  pub other_count : (p.count ≡ k → ⊥) → false ≡ is_plan (Ok (first_calls k p)) p
  unfolding first_calls is_plan same_plan
  other_count z = rw (ne_eqb k p.count (λ e. z (sym e))) refl

  -- the calls behind as the code reads them
  pub behind_are : take (6 - k) (drop k p.calls) ≡ drop k p.calls
  behind_are = take_all (6 - k) (drop k p.calls) (omega (arith, length-drop k p.calls))

  pub behind_length : length (take (6 - k) (drop k p.calls)) ≡ 6 - k
  behind_length = rw behind_are (omega (arith, length-drop k p.calls))

  pub own_count : k ≤ 6 → p.count ≡ k
      → same_calls (drop k no_plan.calls) (drop k p.calls) ≡ is_plan (Ok (first_calls k p)) p
  unfolding first_calls is_plan same_plan
  own_count h z =
      rw (eq-eqb k p.count (sym z)) (sym (same_behind k p.calls (drop k no_plan.calls) (omega arith)))

none_at : (j : ℕ) → get_or no_plan.calls j no_call ≡ no_call
none_at zero = refl
none_at (suc zero) = refl
none_at (suc (suc zero)) = refl
none_at (suc (suc (suc zero))) = refl
none_at (suc (suc (suc (suc zero)))) = refl
none_at (suc (suc (suc (suc (suc zero))))) = refl
none_at (suc (suc (suc (suc (suc (suc j)))))) = refl

-- one of the calls behind
module _ (cs : List Call) (d : Call) (i j : ℕ) (h : i < length cs) (z : j + length cs ≡ i + 6) where
  pub some_behind : same_call (get_or cs i d) no_call ≡ false
      → false ≡ same_calls (drop j no_plan.calls) (drop i cs)
  unfolding same_calls
  some_behind e =
      rw (drop-cons no_plan.calls j no_call (omega arith), drop-cons cs i d h, none_at j) (pick _ refl)
    where
      pick : (b : Bool) → same_call no_call (get_or cs i d) ≡ b
          → false ≡ (b && same_calls (drop (suc j) no_plan.calls) (drop (suc i) cs))
      pick true x =
          let y = same_call_equal no_call (get_or cs i d) x in
          absurd (true≢false (sym (same_call_self no_call) ∙ ap (λ c. same_call c no_call) y ∙ e))
      pick false x = refl

  pub none_behind : get_or cs i d ≡ no_call → (n : ℕ) → n ≡ j + 1
      → same_calls (drop n no_plan.calls) (drop (i + 1) cs) ≡ same_calls (drop j no_plan.calls) (drop i cs)
  unfolding same_calls
  none_behind e n x =
      rw (
        x,
        add-one j,
        add-one i,
        drop-cons no_plan.calls j no_call (omega arith),
        drop-cons cs i d h,
        none_at j,
        e,
        same_call_self no_call,
      ) refl

pub all_behind : (cs : List Call) (i j : ℕ) → length cs ≤ i → 6 ≤ j
    → true ≡ same_calls (drop j no_plan.calls) (drop i cs)
unfolding same_calls
all_behind cs i j h k = rw (drop_of_length-le no_plan.calls {i = j} k, drop_of_length-le cs {i = i} h) refl

-- ---- the walk

-- a refused row has no plan
pub no_plan_of : {r : Result Plan Refusal} (e : Refusal) (p : Plan) → Err e ≡ r → false ≡ is_plan r p
unfolding is_plan
no_plan_of e p z = ap (λ (r : Result Plan Refusal). is_plan r p) z

-- an accepted walk keeps the calls that it has
kept_calls : (operators : ℕ) (os : List ℕ) (inside first : ℕ) (p q : Plan) (k : ℕ) → k < p.count
    → plan_from operators inside first p os ≡ Ok q → get_or q.calls k no_call ≡ get_or p.calls k no_call
unfolding plan_from
kept_calls operators [] inside first p q k h e = let z : q ≡ p = cc in ap (λ (r : Plan). get_or r.calls k no_call) z
kept_calls operators (o ∷ os) (suc inside) first p q k h e = kept_calls operators os inside (suc first) p q k h e
kept_calls operators (o ∷ os) zero first p q k h e =
    let n = rendered operators (o ∷ os) in
    let c = call_of first n (o ∷ os) in
    at_call (λ r. r ≡ Ok q → get_or q.calls k no_call ≡ get_or p.calls k no_call) operators first p o os
    (λ z. absurd cc)
    (λ z. absurd cc)
    (λ x y z. kept_calls operators os (n - 1) (suc first) (extended p c) q k (unfold extended in omega arith) z
    ∙ (unfold extended in get_or-set_other p.calls p.count k c no_call (omega arith)))
    e

-- a call that is not the plan's
pub other_call : (operators first : ℕ) (os : List ℕ) (p : Plan) (k : ℕ) (c : Call) (r : Result Plan Refusal)
    → length p.calls ≡ 6 → k < 6 → plan_from operators 0 first (extended (first_calls k p) c) os ≡ r
    → same_call c (get_or p.calls k no_call) ≡ false → false ≡ is_plan r p
unfolding is_plan extended first_calls
other_call operators first os p k c (Err e) l h w d = refl
other_call operators first os p k c (Ok q) l h w d = pick (same_plan q p) refl
  where
    differ : q ≡ p → ⊥
    differ z =
        let x = kept_calls operators os 0 first (extended (first_calls k p) c) q k (omega arith) w in
        let y = get_or-set_same (first_calls k p).calls k c no_call (omega (arith, first_slots p l k (omega arith))) in
        let e : get_or p.calls k no_call ≡ c = ap (λ (r : Plan). get_or r.calls k no_call) (sym z) ∙ x ∙ y in
        true≢false (sym (same_call_self c) ∙ ap (λ (o : Call). same_call c o) (sym e) ∙ d)

    pick : (b : Bool) → same_plan q p ≡ b → false ≡ b
    pick true z = absurd (differ (same_plan_equal q p z))
    pick false z = refl

-- What the plan of every accepted row keeps to, by one walk along the row; then, that each operator is in exactly one
-- call. Assumes nothing.
use mathlib.Core.Path.{◌≡◌, refl, sym, ap, subst, ◌∙◌}
use mathlib.Core.Bool.{Bool, true, false, cond, not, ◌&&◌, ◌||◌, true≢false, false≢true, and-eq-true_iff}
use mathlib.Core.Logic.{◌⊎◌, inl, inr, ⊎_elim}
use Prim.Native.Nat.{ℕ, zero, suc, ◌+◌, ◌-◌, ◌≤◌, ◌<◌}
use native.Mathlib.Nat.{add-zero, le_refl}
use native.Mathlib.Decide.{dec_lt}
use native.Mathlib.Numerals.{add-one}
use native.Mathlib.Omega.{arith}
use mathlib.Core.List.{List, [], ◌∷◌}
use lib.Dec.{eqb}
use lib.ListN.{length, get_or, set, take, drop, length-set, length-take}
use lib.Seq.{length-take-le, drop-drop, get_or-set_same, get_or-set_other}
use borrow.Author.Tests.{eqb-true, eqb-false}
use Rattle.algorithms.specs.Opcode.{source, adding}
use Rattle.algorithms.specs.Chain.{Modulation, origin_from, modulation, known, renders, call_length, rendered}
use Rattle.algorithms.specs.Chain.Modulation.{unmodulated, external, feedback, originless}
use Rattle.std.specs.Prelude.{Ok, Err, IfOk}
use Rattle.refusals.specs.declared.Refusal.TheVariants.{WrongTable}
use Rattle.algorithms.specs.Plan.{call_of, no_call, no_plan, reading, ready, unready, extended, plan_from}
use Rattle.algorithms.specs.Plan.{counted, planned}
use Rattle.algorithms.specs.Accepted.{covered, Covering, In, Safe, Sound, Made}
use Rattle.algorithms.specs.declared.Call.{Call}
use Rattle.algorithms.specs.declared.Plan.{Plan}
use Rattle.algorithms.proofs.Lengths.{modulation_first, rendered_within}
use Rattle.algorithms.proofs.Steps.{at_call, call_input, call_output, ready_before}
use Rattle.algorithms.proofs.Tables.{counted_few}

-- ---- a renderer's chain

or_cases : (a b : Bool) → (a || b) ≡ true → (a ≡ true) ⊎ (b ≡ true)
or_cases true b e = inl refl
or_cases false b e = inr e

both_equal : (n k j i : ℕ) → (eqb n k && eqb j i) ≡ true → (n ≡ k) × (j ≡ i)
both_equal n k j i e = let p = (and-eq-true_iff (eqb n k) (eqb j i)).0 e in (eqb-true n k p.0, eqb-true j i p.1)

-- a renderer with feedback: the origin is the last operator, and several operators are 2 or 3 of six, with the way add
record Fed (operators n j : ℕ) (add : Bool) : Type 0 where
  origin : j + 1 ≡ n
  chain : (n ≡ 1) ⊎ ((operators ≡ 6) × (n ≤ 3) × (add ≡ true))

fed_known : (operators n j : ℕ) (add : Bool) → known operators n (feedback j) add ≡ true → Fed operators n j add
unfolding known
fed_known operators n j add e =
    ⊎_elim (λ z. single (both_equal n 1 j 0 z)) chain
    (or_cases (eqb n 1 && eqb j 0) (eqb operators 6 && (add && ((eqb n 3 && eqb j 2) || (eqb n 2 && eqb j 1)))) e)
  where
    single : (n ≡ 1) × (j ≡ 0) → Fed operators n j add
    single z = record { origin = omega arith; chain = inl z.0 }

    several : (k i : ℕ) → k ≤ 3 → i + 1 ≡ k → (n ≡ k) × (j ≡ i) → operators ≡ 6 → add ≡ true → Fed operators n j add
    several k i h l z x y = record { origin = omega arith; chain = inr (x, omega arith, y) }

    chain : (eqb operators 6 && (add && ((eqb n 3 && eqb j 2) || (eqb n 2 && eqb j 1)))) ≡ true → Fed operators n j add
    chain z =
        let three-or-two = (eqb n 3 && eqb j 2) || (eqb n 2 && eqb j 1) in
        let w = (and-eq-true_iff (eqb operators 6) (add && three-or-two)).0 z in
        let v = (and-eq-true_iff add three-or-two).0 w.1 in
        let x = eqb-true operators 6 w.0 in
        let y = v.0 in
        ⊎_elim (λ v. several 3 2 (omega arith) (omega arith) (both_equal n 3 j 2 v) x y)
        (λ v. several 2 1 (omega arith) (omega arith) (both_equal n 2 j 1 v) x y)
        (or_cases (eqb n 3 && eqb j 2) (eqb n 2 && eqb j 1) v.1)

-- a feedback call's origin is its last operator
pub origin_last : (operators n j : ℕ) (add : Bool) → known operators n (feedback j) add ≡ true → j + 1 ≡ n
origin_last operators n j add e = (fed_known operators n j add e).origin

-- a renderer is for one operator or has feedback
known_cases : (operators n : ℕ) (m : Modulation) (add : Bool) → known operators n m add ≡ true
    → (n ≡ 1) ⊎ ((m ≡ feedback (n - 1)) × (operators ≡ 6) × (n ≤ 3) × (add ≡ true))
unfolding known
known_cases operators n unmodulated add e = inl (eqb-true n 1 e)
known_cases operators n external add e = inl (eqb-true n 1 e)
known_cases operators n (feedback j) add e =
    let f = fed_known operators n j add e in
    let o = f.origin in
    let l : j ≡ n - 1 = omega arith in
    ⊎_elim inl (λ z. inr (ap feedback l, z.0, z.1, z.2)) f.chain
known_cases operators n originless add e = absurd (false≢true e)

-- what has feedback has source 3
fed_source : (o n j : ℕ) (os : List ℕ) → 1 ≤ n → modulation (take n (o ∷ os)) ≡ feedback j → source o ≡ 3
fed_source o n j os h e = pick (eqb (source o) 0) (eqb (source o) 3) refl (sym (modulation_first o n os h) ∙ e)
  where
    pick : (b d : Bool) → eqb (source o) 3 ≡ d
        → cond b unmodulated (cond d (origin_from 0 originless (take n (o ∷ os))) external) ≡ feedback j → source o ≡ 3
    pick true d f e = let z : ◌≡◌ {A = ℕ} 0 1 = cc in absurd (omega arith)
    pick false true f e = eqb-true (source o) 3 f
    pick false false f e = let z : ◌≡◌ {A = ℕ} 0 1 = cc in absurd (omega arith)

-- a call with operators has a renderer
renders_call : (operators : ℕ) (os : List ℕ) → (rendered operators os ≡ 0 → ⊥)
    → renders operators os (rendered operators os) ≡ true
unfolding rendered
renders_call operators os h = pick (renders operators os (call_length operators os)) refl h
  where
    pick : (b : Bool) → renders operators os (call_length operators os) ≡ b
        → (cond b (call_length operators os) 0 ≡ 0 → ⊥)
        → renders operators os (cond b (call_length operators os) 0) ≡ true
    pick true e h = e
    pick false e h = absurd (h refl)

call_sound : (operators first o : ℕ) (os : List ℕ) (c : Call) → c ≡ call_of first (rendered operators (o ∷ os)) (o ∷ os)
    → (rendered operators (o ∷ os) ≡ 0 → ⊥)
    → first + suc (length os) ≤ operators → Sound operators c
unfolding call_of renders
call_sound operators first o os c e h l =
    let n = rendered operators (o ∷ os) in
    record {
      input = call_input first n (o ∷ os) c e;
      output = call_output first n (o ∷ os) c e;
      within = rw e (omega (arith, rendered_within operators o os));
      chain = rw e (⊎_elim inl (λ x. inr (record {
        six = x.1;
        few = x.2;
        fed = fed_source o n (n - 1) os (omega arith)
            x.0;
        adds = x.3;
      }))
          (known_cases operators n (modulation (take n (o ∷ os))) (adding (get_or (o ∷ os) (n - 1) 0)) (renders_call
          operators (o ∷ os) h)));
    }

-- ---- the walk

-- no call reads or adds to a scratch buffer that no earlier call has set
abbrev pub SafePlan : Plan → Type 0
SafePlan p = (k : ℕ) → k < p.count → Safe p.calls k

-- a plan so far of the row t, whose calls end at operator `first`
pub record Good (operators first : ℕ) (t : List ℕ) (p : Plan) : Type 0 where
  pub slots : length p.calls ≡ 6
  pub fewer : p.count ≤ first
  pub covering : Covering p.calls p.count first
  pub safe : SafePlan p
  pub sound : (k : ℕ) → k < p.count → Sound operators (get_or p.calls k no_call)
  pub made : (k : ℕ) → k < p.count → Made operators t (get_or p.calls k no_call)

none_below : (P : ℕ → Type 0) (k : ℕ) → k < 0 → P k
none_below P k h = absurd (omega arith)

good_start : (operators : ℕ) (t : List ℕ) → Good operators 0 t no_plan
unfolding covered
good_start operators t = record {
  slots = refl;
  fewer = omega arith;
  covering = record { starts = none_below _; some = none_below _; whole = refl };
  safe = none_below _;
  sound = none_below _;
  made = none_below _;
}

-- a call that passes reads and adds to ready buffers
passes_safe : (r : ℕ → Bool) (c : Call) → unready r c ≡ false
    → (reading c ≡ true → r c.input ≡ true) × (c.add ≡ true → r c.output ≡ true)
unfolding unready
passes_safe r c e = (
  λ z. pick₁ (reading c) (r c.input) (c.add && not (r c.output)) z e,
  λ z. pick₂ (reading c && not
      (r c.input)) c.add (r c.output) z e,
)
  where
    pick₁ : (a b x : Bool) → a ≡ true → ((a && not b) || x) ≡ false → b ≡ true
    pick₁ true true x z e = refl
    pick₁ true false x z e = absurd (true≢false e)
    pick₁ false b x z e = absurd (false≢true z)

    pick₂ : (x a b : Bool) → a ≡ true → (x || (a && not b)) ≡ false → b ≡ true
    pick₂ x true true z e = refl
    pick₂ true true false z e = absurd (true≢false e)
    pick₂ false true false z e = absurd (true≢false e)
    pick₂ x false b z e = absurd (false≢true z)

-- what holds of each call so far, and of the next, holds of each call after it
each_more : (P : ℕ → Type 0) (m : ℕ) → ((k : ℕ) → k < m → P k) → P m → (k : ℕ) → k < m + 1 → P k
each_more P m f x k h = pick (dec_lt k m)
  where
    pick : Dec (k < m) → P k
    pick (yes l) = f k l
    pick (no l) = let z : k ≡ m = omega arith in rw z x

module _ (cs : List Call) (m : ℕ) (c : Call) where
  -- the calls before a new one are as they were
  kept : (k : ℕ) → k < m → get_or (set cs m c) k no_call ≡ get_or cs k no_call
  kept k h = get_or-set_other cs m k c no_call (omega arith)

  covered_before : (k : ℕ) → k ≤ m → covered (set cs m c) k ≡ covered cs k
  unfolding covered
  covered_before zero h = refl
  covered_before (suc k) h = rw (kept k h)

  safe_before : (k : ℕ) → k < m → Safe cs k → Safe (set cs m c) k
  safe_before k h s = record {
    reads = rw (kept k h, ready_before cs m k (get_or cs k no_call).input c (omega arith)) s.reads;
    adds = rw (kept k h, ready_before cs m k (get_or cs k no_call).output c (omega arith)) s.adds;
  }

  module _ (l : m < length cs) where
    new : get_or (set cs m c) m no_call ≡ c
    new = get_or-set_same cs m c no_call l

    safe_new : unready (ready cs m) c ≡ false → Safe (set cs m c) m
    safe_new e =
        let s = passes_safe (ready cs m) c e in
        record {
          reads = rw (new, ready_before cs m m c.input c (le_refl m)) s.0;
          adds = rw (new, ready_before cs m m c.output c (le_refl m)) s.1;
        }

-- one call more
good_more : (operators first n : ℕ) (t : List ℕ) (p : Plan) (c : Call) → operators ≤ 6 → first < operators
    → c.first ≡ first
    → c.n ≡ n → 1 ≤ n → Sound operators c → Made operators t c
    → unready (ready p.calls p.count) c ≡ false → Good operators first t p
    → Good operators (first + n) t (extended p c)
unfolding extended covered
good_more operators first n t p c h i ef en some sound made e g =
    let cs = p.calls in
    let m = p.count in
    let ds = set cs m c in
    let l : m < length cs = omega (arith, g.slots, g.fewer) in
    let x = new cs m c l in
    record {
      slots = length-set cs m c ∙ g.slots;
      fewer = omega (arith, g.fewer);
      covering = record {
        starts = each_more (λ k. (get_or ds k no_call).first ≡ covered ds k) m
            (λ k z. rw (kept cs m c k z, covered_before cs m c k (omega arith)) (g.covering.starts k z))
            (rw (x, covered_before cs m c m (le_refl m)) (ef ∙ sym g.covering.whole));
        some =
            each_more (λ k. 1 ≤ (get_or ds k no_call).n) m (λ k z. rw (kept cs m c k z) (g.covering.some k z))
            (rw x (omega arith));
        whole = rw (add-one m, x, ef, en);
      };
      safe = each_more (λ k. Safe ds k) m (λ k z. safe_before cs m c k z (g.safe k z)) (safe_new cs m c l e);
      sound =
          each_more (λ k. Sound operators (get_or ds k no_call)) m (λ k z. rw (kept cs m c k z) (g.sound k z))
          (rw x sound);
      made =
          each_more (λ k. Made operators t (get_or ds k no_call)) m (λ k z. rw (kept cs m c k z) (g.made k z))
          (rw x made);
    }

-- what is good at a place is good at the same place
good_at : (operators i j : ℕ) (t : List ℕ) (p : Plan) → i ≡ j → Good operators i t p → Good operators j t p
good_at operators i j t p e g = rw (sym e) g

positive : (n : ℕ) → eqb n 0 ≡ false → 1 ≤ n
positive n e = let z = eqb-false n 0 e in omega arith

-- the row behind an operator
behind : (t : List ℕ) (first o : ℕ) (os : List ℕ) → (o ∷ os) ≡ drop first t → os ≡ drop (suc first) t
behind t first o os e =
    ap (λ (l : List ℕ). drop 1 l) e ∙ drop-drop 1 first t ∙ ap (λ (k : ℕ). drop k t) (add-one first)

-- THE THEOREM along the row t, of which os is what is still to come
walk_good : (operators last : ℕ) → operators ≤ 6 → last ≤ operators → (t os : List ℕ) (inside first : ℕ) (p : Plan)
    → os ≡ drop first t → first + length os ≡ last → inside ≤ length os
    → Good operators (first + inside) t p
    → IfOk (plan_from operators inside first p os) (Good operators last t)
unfolding plan_from call_of
walk_good operators last h m t [] inside first p d l i g = good_at operators (first + inside) last t p (omega arith) g
walk_good operators last h m t (o ∷ os) (suc inside) first p d l i g =
    walk_good operators last h m t os inside (suc first) p (behind t first o os d) (omega arith) (omega arith)
    (good_at operators (first + suc inside) (suc first + inside) t p (omega arith) g)
walk_good operators last h m t (o ∷ os) zero first p d l i g =
    let n = rendered operators (o ∷ os) in
    let c = call_of first n (o ∷ os) in
    let made : Made operators t c = ap (λ (r : List ℕ). call_of first (rendered operators r) r) d in
    at_call (λ q. IfOk q (Good operators last t)) operators first p o os tt tt
    (λ x y. walk_good operators last h m t os (n - 1) (suc first) (extended p c) (behind t first o os d) (omega arith)
    (omega (arith, rendered_within operators o os))
    (good_at operators (first + n) (suc first + (n - 1)) t (extended p c) (omega (arith, positive n x))
    (good_more operators first n t p c h (omega arith) refl refl (positive n x)
    (call_sound operators first o os c refl (eqb-false n 0 x) (omega arith)) made y
    (good_at operators (first + 0) first t p (add-zero first) g))))

-- ---- the plan of an accepted row, however long the row is

module _ (operators : ℕ) (row : List ℕ) (p : Plan) (e : planned operators row ≡ Ok p) where
  abbrev t : List ℕ
  t = take operators row

  -- its operators are counted
  pub accepted_six : operators ≤ 6
  unfolding planned
  accepted_six = pick (counted operators) refl e
    where
      pick : (b : Bool) → counted operators ≡ b
          → cond b (plan_from operators 0 0 no_plan (take operators row)) (Err WrongTable) ≡ Ok p → operators ≤ 6
      pick true x z = counted_few operators x
      pick false x z = absurd cc

  planned_good : Good operators (length t) t p
  unfolding planned
  planned_good = pick (counted operators) refl e
    where
      good : IfOk (plan_from operators 0 0 no_plan t) (Good operators (length t) t)
      good = walk_good operators _ accepted_six (omega (arith, length-take operators row)) t t 0 0 no_plan refl (omega
          arith) (omega arith) (good_start operators t)

      pick : (b : Bool) → counted operators ≡ b → cond b (plan_from operators 0 0 no_plan t) (Err WrongTable) ≡ Ok p
          → Good operators (length t) t p
      pick true x z = rw z at good
      pick false x z = absurd cc

  -- no call reads or adds to a scratch buffer that no earlier call has set
  pub planned_safe : SafePlan p
  planned_safe = planned_good.safe

  -- every call has a renderer, four buffers and operators of the row
  pub planned_sound : (k : ℕ) → k < p.count → Sound operators (get_or p.calls k no_call)
  planned_sound = planned_good.sound

  -- and takes the operators that are rendered together from its first one on
  pub planned_made : (k : ℕ) → k < p.count → Made operators t (get_or p.calls k no_call)
  planned_made = planned_good.made

  -- and an operator or more
  pub planned_some : (k : ℕ) → k < p.count → 1 ≤ (get_or p.calls k no_call).n
  planned_some = planned_good.covering.some

  pub planned_few : p.count ≤ operators
  planned_few = omega (arith, planned_good.fewer, length-take operators row)

  -- the calls' spans cover the operators, in row order
  pub accepted_covering : length row ≡ 6 → Covering p.calls p.count operators
  accepted_covering l =
      subst (Covering p.calls p.count) (length-take-le operators row (omega (arith, accepted_six)))
      planned_good.covering

-- ---- each operator is in exactly one call

-- earlier calls end before later ones do
covered_mono : (cs : List Call) (count operators : ℕ) → Covering cs count operators → (j k : ℕ) → j ≤ k → k ≤ count
    → covered cs j ≤ covered cs k
unfolding covered
covered_mono cs count operators v j zero h i = let z : j ≡ 0 = omega arith in rw z (le_refl _)
covered_mono cs count operators v j (suc k) h i =
    pick (dec_lt k j) (λ x. covered_mono cs count operators v j k x (omega arith))
  where
    pick : Dec (k < j) → (j ≤ k → covered cs j ≤ covered cs k) → covered cs j ≤ covered cs (suc k)
    pick (yes x) f = let z : j ≡ suc k = omega arith in rw z (le_refl _)
    pick (no x) f = omega (arith, f (omega arith), v.starts k i)

-- no operator is in two calls
pub in_one_call : (cs : List Call) (count operators : ℕ) → Covering cs count operators → (j k i : ℕ) → j < count
    → k < count → In cs j i → In cs k i → j ≡ k
unfolding covered
in_one_call cs count operators v j k i hj hk a b = pick (dec_lt j k) (dec_lt k j)
  where
    apart : (j k : ℕ) → j < k → k < count → In cs j i → In cs k i → ⊥
    apart j k h l a b =
        omega (arith, covered_mono cs count operators v (suc j) k h (omega arith), v.starts k l, a.to, b.from)

    pick : Dec (j < k) → Dec (k < j) → j ≡ k
    pick (yes x) d = absurd (apart j k x hk a b)
    pick (no x) (yes y) = absurd (apart k j y hj b a)
    pick (no x) (no y) = omega arith

-- the call that an operator is in
pub record Found (cs : List Call) (count i : ℕ) : Type 0 where
  pub call : ℕ
  pub early : call < count
  pub here : In cs call i

-- every operator before the end of the first k calls is in one of them
found_below : (cs : List Call) (count operators : ℕ) → Covering cs count operators → (k : ℕ) → k ≤ count → (i : ℕ)
    → i < covered cs k → Found cs count i
unfolding covered
found_below cs count operators v zero h i l = absurd (omega arith)
found_below cs count operators v (suc k) h i l =
    pick (dec_lt i (covered cs k)) (found_below cs count operators v k (omega arith) i)
  where
    pick : Dec (i < covered cs k) → (i < covered cs k → Found cs count i) → Found cs count i
    pick (yes x) f = f x
    pick (no x) f = record { call = k; early = h; here = record { from = omega (arith, v.starts k h); to = l } }

-- every operator is in a call
pub in_a_call : (cs : List Call) (count operators : ℕ) → Covering cs count operators → (i : ℕ) → i < operators
    → Found cs count i
in_a_call cs count operators v i h = found_below cs count operators v count (le_refl count) i (rw v.whole h)

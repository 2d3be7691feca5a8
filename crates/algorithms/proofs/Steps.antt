-- The walk along a row, call by call, and the flags that say which buffers are ready.
-- Assumes nothing.
use mathlib.Core.Path.{◌≡◌, refl, sym, ap, ◌∙◌}
use mathlib.Core.Bool.{Bool, true, false, cond, not, ◌&&◌, ◌||◌, true≢false}
use Prim.Native.Nat.{ℕ, zero, suc, ◌+◌, ◌-◌, ◌≤◌, ◌<◌}
use native.Mathlib.Nat.{add-zero, le_refl}
use native.Mathlib.Numerals.{add-one}
use native.Mathlib.Omega.{arith}
use mathlib.Core.List.{List, [], ◌∷◌}
use lib.Dec.{eqb}
use lib.ListN.{length, get_or, set, take, drop, length-drop, drop_of_length-le}
use Rattle.std.specs.Prelude.{Option, Some, Result, Ok, Err}
use lib.Seq.{take_all, drop-drop, get_or-set_same, get_or-set_other}
use borrow.Author.Tests.{ne_eqb, eqb-true, eqb-false}
use Rattle.algorithms.specs.Opcode.{destination, source}
use Rattle.algorithms.specs.Chain.{rendered, some}
use Rattle.algorithms.specs.Plan.{call_of, no_call, reading, ready, unready, extended, plan_from}
use Rattle.algorithms.specs.declared.Call.{Call}
use Rattle.algorithms.specs.declared.Plan.{Plan}
use Rattle.algorithms.proofs.Lengths.{some_is, rendered_most}
use Rattle.refusals.specs.declared.Refusal.{Refusal}
use Rattle.refusals.specs.declared.Refusal.TheVariants.{NoRenderer, UnsetBuffer}

-- the operators inside a call are passed over
pub inside : (operators k first : ℕ) (p : Plan) (os : List ℕ)
    → plan_from operators k first p os ≡ plan_from operators 0 (first + k) p (drop k os)
unfolding plan_from
inside operators zero first p os = rw add-zero
inside operators (suc k) first p [] = refl
inside operators (suc k) first p (o ∷ os) =
    inside operators k (suc first) p os ∙ ap (λ (j : ℕ). plan_from operators 0 j p (drop k os)) (omega arith)

-- what holds of both refusals, and of the walk behind an accepted call, holds of the walk where a call begins
module _ (A : Result Plan Refusal → Type 0) (operators first : ℕ) (p : Plan) (o : ℕ) (os : List ℕ) where
  abbrev n : ℕ
  n = rendered operators (o ∷ os)

  abbrev c : Call
  c = call_of first n (o ∷ os)

  abbrev next : Result Plan Refusal
  next = plan_from operators (n - 1) (suc first) (extended p c) os

  pub at_call : A (Err (NoRenderer first)) → A (Err (UnsetBuffer first))
      → (eqb n 0 ≡ false → unready (ready p.calls p.count) c ≡ false → A next)
      → A (plan_from operators 0 first p (o ∷ os))
  unfolding plan_from
  at_call lacks-one is-unready goes_on = pick (eqb n 0) (unready (ready p.calls p.count) c) refl refl
    where
      pick : (b d : Bool) → eqb n 0 ≡ b → unready (ready p.calls p.count) c ≡ d
          → A (cond b (Err (NoRenderer first)) (cond d (Err (UnsetBuffer first)) next))
      pick true d x y = lacks-one
      pick false true x y = is-unready
      pick false false x y = goes_on x y

module _ (operators first : ℕ) (os : List ℕ) (some : 0 < length os) (p : Plan) where
  -- a call without a renderer
  pub lacking_at : rendered operators os ≡ 0 → Err (NoRenderer first) ≡ plan_from operators 0 first p os
  unfolding plan_from
  lacking_at e = go os some e
    where
      go : (r : List ℕ) → 0 < length r → rendered operators r ≡ 0
          → Err (NoRenderer first) ≡ plan_from operators 0 first p r
      go [] h e = absurd (omega arith)
      go (o ∷ r) h e = rw e refl

  module _ (n : ℕ) (en : n ≡ rendered operators os) (h : 1 ≤ n) (c : Call) (ec : c ≡ call_of first n os) where
    -- a call that is not ready
    pub unready_at : unready (ready p.calls p.count) c ≡ true
        → Err (UnsetBuffer first) ≡ plan_from operators 0 first p os
    unfolding plan_from
    unready_at z = go os some en ec
      where
        go : (r : List ℕ) → 0 < length r → n ≡ rendered operators r → c ≡ call_of first n r
            → Err (UnsetBuffer first) ≡ plan_from operators 0 first p r
        go [] k e d = absurd (omega arith)
        go (o ∷ r) k e d = rw (← e, ne_eqb n 0 (omega arith), ← d, z) refl

    -- an accepted one
    pub step_at : unready (ready p.calls p.count) c ≡ false
        → plan_from operators 0 (first + n) (extended p c) (drop n os) ≡ plan_from operators 0 first p os
    unfolding plan_from
    step_at z = go os some en ec
      where
        go : (r : List ℕ) → 0 < length r → n ≡ rendered operators r → c ≡ call_of first n r
            → plan_from operators 0 (first + n) (extended p c) (drop n r) ≡ plan_from operators 0 first p r
        go [] k e d = absurd (omega arith)
        go (o ∷ r) k e d =
            let m : suc first + (n - 1) ≡ first + n = omega arith in
            let g : drop n (o ∷ r) ≡ drop (n - 1) r = behind n h in
            rw (← e, ne_eqb n 0 (omega arith), ← d, z) (sym (inside operators (n - 1) (suc first) (extended p c) r ∙
            rw m (sym (ap (λ (s : List ℕ). plan_from operators 0 (first + n) (extended p c) s) g))))
          where
            behind : (i : ℕ) → 1 ≤ i → drop i (o ∷ r) ≡ drop (i - 1) r
            behind zero l = absurd (omega arith)
            behind (suc i) l = let y : suc i - 1 ≡ i = omega arith in rw y refl

-- the row's end
pub done_at : (operators first : ℕ) (row : List ℕ) (p : Plan) → length row ≤ first
    → Ok p ≡ plan_from operators 0 first p (drop first row)
unfolding plan_from
done_at operators first row p h = rw (drop_of_length-le row {i = first} h)

-- ---- a walk over a slice, whose operators from `first` on the code reads

-- what the code reads of the row, its operators from `first` on
pub from_on : (first : ℕ) (row : List ℕ) → take (length row - first) (drop first row) ≡ drop first row
from_on first row = take_all (length row - first) (drop first row) (omega (arith, length-drop first row))

-- a call that has a renderer
pub record Found (first n : ℕ) (row : List ℕ) : Type 0 where
  pub is : n ≡ rendered (length row) (drop first row)
  pub one : 1 ≤ n
  pub within : first + n ≤ length row

pub found : {r : Option ℕ} (first n : ℕ) (row : List ℕ) → first < length row
    → r ≡ some (rendered (length row) (take (length row - first) (drop first row))) → r ≡ Some n → Found first n row
found first n row h e z =
    let s = some_is (rendered (length row) (drop first row)) n (sym z ∙ e ∙ ap (λ (l : List ℕ). some (rendered (length
    row) l)) (from_on first row)) in
    record {
      is = s.0;
      one = s.1;
      within = omega (
        arith,
        s.0,
        rendered_most (length row) (drop first row) (omega (arith, length-drop first row)),
        length-drop first row,
      );
    }

pub called : {c : Call} (first n : ℕ) (row : List ℕ) → c ≡ call_of first n (take (length row - first) (drop first row))
    → c ≡ call_of first n (drop first row)
called first n row e = e ∙ ap (call_of first n) (from_on first row)

pub called_n : {c : Call} (first n : ℕ) (os : List ℕ) → c ≡ call_of first n os → c.n ≡ n
unfolding call_of
called_n first n os e = rw e refl

pub next_at : (operators first k n : ℕ) (p : Plan) (row : List ℕ) → k ≡ n → {q : Result Plan Refusal}
    → plan_from operators 0 (first + n) p (drop n (drop first row)) ≡ q
    → plan_from operators 0 (first + k) p (drop (first + k) row) ≡ q
next_at operators first k n p row e h = rw (e, ← drop-drop n first row) h

-- ---- flags

-- flags for the four buffers
abbrev pub Flags : List Bool → List Call → ℕ → Type 0
Flags flags cs k = (q : ℕ) → q < 4 → get_or flags q false ≡ ready cs k q

-- at the start only the output is ready
pub flags_start : (cs : List Call) → Flags (true ∷ false ∷ false ∷ false ∷ []) cs 0
unfolding ready
flags_start cs zero h = refl
flags_start cs (suc zero) h = refl
flags_start cs (suc (suc zero)) h = refl
flags_start cs (suc (suc (suc zero))) h = refl
flags_start cs (suc (suc (suc (suc q)))) h = absurd (omega arith)

-- a call's buffers are among the four
pub call_input : (first n : ℕ) (os : List ℕ) (c : Call) → c ≡ call_of first n os → c.input < 4
unfolding call_of source
call_input first n os c e = rw e (omega arith)

pub call_output : (first n : ℕ) (os : List ℕ) (c : Call) → c ≡ call_of first n os → c.output < 4
unfolding call_of destination
call_output first n os c e = rw e (omega arith)

pub flags_agree : (flags : List Bool) (cs : List Call) (k : ℕ) (c : Call) → Flags flags cs k → c.input < 4
    → c.output < 4 → unready (λ q. get_or flags q false) c ≡ unready (ready cs k) c
unfolding unready
flags_agree flags cs k c f i o = rw (f c.input i, f c.output o)

-- a call's test by flags is the definition's
pub flags_test : {b : Bool} (flags : List Bool) (cs : List Call) (k first n : ℕ) (os : List ℕ) (c : Call)
    → b ≡ unready (λ q. get_or flags q false) c → c ≡ call_of first n os → Flags flags cs k → b ≡ unready (ready cs k) c
flags_test flags cs k first n os c e d f =
    e ∙ flags_agree flags cs k c f (call_input first n os c d) (call_output first n os c d)

-- what stands behind the first k calls is nothing to them
pub ready_before : (cs : List Call) (i k q : ℕ) (c : Call) → k ≤ i → ready (set cs i c) k q ≡ ready cs k q
unfolding ready
ready_before cs i zero q c h = refl
ready_before cs i (suc k) q c h =
    rw (get_or-set_other cs i k c no_call (omega arith), ready_before cs i k q c (omega arith))

-- a call that passes sets its buffer, or the buffer was ready
set_or_ready : (x a r : Bool) → (x || (a && not r)) ≡ false → (not a || r) ≡ true
set_or_ready true a r e = absurd (true≢false e)
set_or_ready false true true e = refl
set_or_ready false true false e = absurd (true≢false e)
set_or_ready false false r e = refl

-- the buffer that an accepted call writes is ready behind it
pub flags_more : (flags : List Bool) (cs : List Call) (k : ℕ) (c : Call) → length flags ≡ 4 → k < length cs
    → c.output < 4 → unready (ready cs k) c ≡ false → Flags flags cs k
    → Flags (set flags c.output true) (set cs k c) (k + 1)
unfolding ready unready
flags_more flags cs k c l h o u f q hq =
    rw (add-one, get_or-set_same cs k c no_call h, ready_before cs k k q c (le_refl k)) (pick (eqb q c.output) refl)
  where
    pick : (b : Bool) → eqb q c.output ≡ b
        → get_or (set flags c.output true) q false ≡ ((b && not c.add) || ready cs k q)
    pick true e =
        let z = eqb-true q c.output e in
        rw (z, get_or-set_same flags c.output true false (omega arith))
        (sym (set_or_ready (reading c && not (ready cs k c.input)) c.add (ready cs k c.output) u))
    pick false e = get_or-set_other flags c.output q true false (eqb-false q c.output e) ∙ f q hq

-- The kernel of demand 3: two blocks with the same output quarter, whatever their scratch quarters hold, come out of a
-- safe plan with the same output quarter, and leave the same operators and the same feedback.
-- Assumes nothing.
use mathlib.Core.Path.{◌≡◌, refl, sym, ap, ◌∙◌}
use Prim.Native.Nat.{ℕ, zero, suc, ◌/◌, ◌≤◌, ◌<◌}
use native.Mathlib.Nat.{suc-ne-zero, suc_inj, le_refl}
use native.Mathlib.Omega.{arith}
use mathlib.Core.Bool.{Bool, true, false, not, ◌&&◌, ◌||◌}
use mathlib.Core.List.{List, [], ◌∷◌}
use lib.ListN.{length, get_or, set, take, drop, length-set, length-take, length-drop}
use lib.Seq.{length-take-le, take_at, take-nil}
use lib.Dec.{eqb}
use lib.Ieee.{Float}
use borrow.Author.Tests.{ne_eqb, eqb-true}
use Rattle.algorithms.specs.Plan.{no_call, reading, ready}
use Rattle.algorithms.specs.Accepted.{Safe}
use Rattle.algorithms.specs.declared.Call.{Call}
use Rattle.algorithms.specs.declared.Plan.{Plan}
use Rattle.operator.specs.Chain.{Source, Chain, written}
use Rattle.operator.proofs.Blind.{length_written, set_ignores}
use Rattle.voice_block.specs.Quarters.{split, joined}
use Rattle.voice_block.specs.Calls.{chain_at, source_of, Desk, desk, called, called_up_to, setting, ran}
use Rattle.voice_block.specs.declared.Operators.{Operators}
use Rattle.voice_block.specs.Calls.{Setting}

-- ---- a call: the quarter that it reads matters only where it reads, and what stood there only where it adds

source_same : (feedback_scale : Float) (c : Call) (qs ps : List (List Float))
    → (reading c ≡ true → get_or qs c.input [] ≡ get_or ps c.input [])
    → source_of feedback_scale c qs ≡ source_of feedback_scale c ps
unfolding source_of
source_same feedback_scale c qs ps h = pick (reading c) refl
  where
    pick : (b : Bool) → reading c ≡ b → source_of feedback_scale c qs ≡ source_of feedback_scale c ps
    pick true e = rw (e, h e)
    pick false e = rw e

written_same : (pairs : List Float) (source : Source) (add : Bool) (s : Chain) (o p : List Float) → (add ≡ true → o ≡ p)
    → length o ≡ length p
    → written pairs source add 0 s o ≡ written pairs source add 0 s p
written_same pairs source true s o p h e = ap (written pairs source true 0 s) (h refl)
written_same pairs source false s o p h e = set_ignores pairs source 0 s o p e

-- what f sees of a quarter is the same in both lists after the same place is written
set_same : {A : Type 0} (f : List Float → A) (qs ps : List (List Float)) (o q : ℕ) (x y : List Float)
    → length qs ≡ length ps → f x ≡ f y
    → ((q ≡ o → ⊥) → f (get_or qs q []) ≡ f (get_or ps q [])) → f (get_or (set qs o x) q [])
    ≡ f (get_or (set ps o y) q [])
set_same f [] [] o q x y e n h = refl
set_same f [] (b ∷ ps) o q x y e n h = absurd (suc-ne-zero _ (sym e))
set_same f (a ∷ qs) [] o q x y e n h = absurd (suc-ne-zero _ e)
set_same f (a ∷ qs) (b ∷ ps) zero zero x y e n h = n
set_same f (a ∷ qs) (b ∷ ps) zero (suc q) x y e n h = h (suc-ne-zero q)
set_same f (a ∷ qs) (b ∷ ps) (suc o) zero x y e n h = h (λ z. suc-ne-zero o (sym z))
set_same f (a ∷ qs) (b ∷ ps) (suc o) (suc q) x y e n h =
    set_same f qs ps o q x y (suc_inj e) n (λ z. h (λ w. z (suc_inj w)))

-- ---- a plan

-- two desks after k calls: the same operators, and the same in each quarter that is ready
record Agree (cs : List Call) (k : ℕ) (d e : Desk) : Type 0 where
  operators : d.operators ≡ e.operators
  quarters : (q : ℕ) → ready cs k q ≡ true → get_or d.quarters q [] ≡ get_or e.quarters q []
  sizes : (q : ℕ) → length (get_or d.quarters q []) ≡ length (get_or e.quarters q [])
  as_many : length d.quarters ≡ length e.quarters

module _ (cs : List Call) (k : ℕ) (d e : Desk) (a : Agree cs k d e) where
  -- a call that writes the same into its quarter, and leaves the same operators
  agree_more : (v w : Operators) (x y : List Float) → v ≡ w → x ≡ y
      → Agree cs (suc k) (record { operators = v; quarters = set d.quarters (get_or cs k no_call).output x })
      (record { operators = w; quarters = set e.quarters (get_or cs k no_call).output y })
  unfolding ready
  agree_more v w x y ev ex =
      let o = (get_or cs k no_call).output in
      record {
        operators = ev;
        quarters = λ q r. set_same (λ (l : List Float). l) d.quarters e.quarters o q x y a.as_many ex
            (λ z. a.quarters q (rw (ne_eqb q o z) at r));
        sizes = λ q. set_same length d.quarters e.quarters o q x y a.as_many (ap length ex) (λ z. a.sizes q);
        as_many = length-set d.quarters o x ∙ a.as_many ∙ sym (length-set e.quarters o y);
      }

  call_more : (pairs : List Float) (g : Setting) → Safe cs k
      → Agree cs (suc k) (called pairs g (get_or cs k no_call) d) (called pairs g (get_or cs k no_call) e)
  unfolding called
  call_more pairs g safe =
      let c = get_or cs k no_call in
      let z = source_same g.feedback_scale c d.quarters e.quarters
      (λ r. a.quarters c.input (safe.reads r)) in
      agree_more _ _ _ _
      (rw (a.operators, z, a.sizes c.output))
      (rw (a.operators, z) (written_same pairs (source_of g.feedback_scale c e.quarters) c.add
      (chain_at g e.operators c.first c.n) _ _ (λ r. a.quarters c.output (safe.adds r))
      (a.sizes c.output)))

plan_same : (pairs : List Float) (g : Setting) (cs : List Call) (k : ℕ) (d e : Desk) → ((j : ℕ) → j < k → Safe cs j)
    → Agree cs zero d e
    → Agree cs k (called_up_to pairs g cs k d) (called_up_to pairs g cs k e)
unfolding called_up_to
plan_same pairs g cs zero d e safe a = a
plan_same pairs g cs (suc k) d e safe a =
    call_more cs k _ _ (plan_same pairs g cs k d e (λ j h. safe j (omega arith)) a) pairs g (safe k (le_refl (suc k)))

-- the output is ready throughout
output_ready : (cs : List Call) (k : ℕ) → ready cs k 0 ≡ true
unfolding ready
output_ready cs zero = refl
output_ready cs (suc k) =
    pick (eqb 0 (get_or cs k no_call).output && not (get_or cs k no_call).add) (ready cs k 0) (output_ready cs k)
  where
    pick : (b r : Bool) → r ≡ true → (b || r) ≡ true
    pick true r e = refl
    pick false r e = e

-- the parts of two lists as long as each other are as long as each other
split_sizes : (n k q : ℕ) (l m : List Float) → length l ≡ length m
    → length (get_or (split n k l) q []) ≡ length (get_or (split n k m) q [])
unfolding split
split_sizes n zero q l m e = refl
split_sizes n (suc k) zero l m e = simp (length-take, e)
split_sizes n (suc k) (suc q) l m e = split_sizes n k q (drop n l) (drop n m) (simp (length-drop, e))

-- two blocks with the same first quarter
begin_same : (cs : List Call) (n : ℕ) (v : Operators) (l m : List Float) → length l ≡ length m → take n l ≡ take n m
    → Agree cs zero (desk n v l) (desk n v m)
unfolding ready split
begin_same cs n v l m el e = record {
  operators = refl;
  quarters = λ q r. rw (eqb-true q 0 r) e;
  sizes = λ q. split_sizes n 4 q l m el;
  as_many = refl;
}

-- ---- the block as a list

set_size : (qs : List (List Float)) (o q : ℕ) (x : List Float) → length x ≡ length (get_or qs o [])
    → length (get_or (set qs o x) q []) ≡ length (get_or qs q [])
set_size [] o q x e = refl
set_size (a ∷ qs) zero zero x e = e
set_size (a ∷ qs) zero (suc q) x e = refl
set_size (a ∷ qs) (suc o) zero x e = refl
set_size (a ∷ qs) (suc o) (suc q) x e = set_size qs o q x e

-- a plan keeps how long each quarter is
pub plan_size : (pairs : List Float) (g : Setting) (cs : List Call) (k : ℕ) (d : Desk) (q : ℕ)
    → length (get_or (called_up_to pairs g cs k d).quarters q []) ≡ length (get_or d.quarters q [])
unfolding called_up_to called
plan_size pairs g cs zero d q = refl
plan_size pairs g cs (suc k) d q =
    let b = called_up_to pairs g cs k d in
    let c = get_or cs k no_call in
    set_size b.quarters c.output q _
    (length_written pairs (source_of g.feedback_scale c b.quarters) c.add 0
    (chain_at g b.operators c.first c.n) (get_or b.quarters c.output []))
    ∙ plan_size pairs g cs k d q

-- the first quarter of the whole
first_of : (n : ℕ) (qs : List (List Float)) → length (get_or qs 0 []) ≡ n → take n (joined qs) ≡ get_or qs 0 []
unfolding joined
first_of n [] e = take-nil n
first_of n (q ∷ qs) e = take_at q (joined qs) n e

output_of_lem : (pairs : List Float) (g : Setting) (cs : List Call) (k n : ℕ) (v : Operators) (l : List Float)
    → n ≤ length l
    → take n (joined (called_up_to pairs g cs k (desk n v l)).quarters)
    ≡ get_or (called_up_to pairs g cs k (desk n v l)).quarters 0 []
unfolding split
output_of_lem pairs g cs k n v l h = first_of n _ (plan_size pairs g cs k (desk n v l) 0 ∙ length-take-le n l h)

-- THE THEOREM: the same operators, the same feedback, the same output quarter
pub same_sound : (pairs : List Float) (plan : Plan) (steps : List ℕ) (targets : List Float) (amount : ℕ) (v : Operators)
    (l m : List Float)
    → ((j : ℕ) → j < plan.count → Safe plan.calls j) → length l ≡ length m
    → take (length l / 4) l ≡ take (length l / 4) m
    → ((ran pairs plan steps targets amount v l).operators ≡ (ran pairs plan steps targets amount v m).operators)
    × (take (length l / 4) (ran pairs plan steps targets amount v l).block
    ≡ take (length l / 4) (ran pairs plan steps targets amount v m).block)
unfolding ran
same_sound pairs plan steps targets amount v l m safe el e =
    let n = length l / 4 in
    let g = setting steps targets amount n in
    let a = plan_same pairs g plan.calls plan.count (desk n v l) (desk n v m) safe
    (begin_same plan.calls n v l m el e) in
    rw (← el) (
      a.operators,
      output_of_lem pairs g plan.calls plan.count n v l (omega arith)
          ∙ a.quarters 0 (output_ready plan.calls plan.count)
          ∙ sym (output_of_lem pairs g plan.calls plan.count n v m (omega arith)),
    )

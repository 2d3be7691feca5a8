-- A loop that renders a chain over a slice: that `Going` holds where the loop begins and after a turn, and what it says
-- at the end.
-- Assumes nothing.
use mathlib.Core.Path.{◌≡◌, refl, sym, ap, ◌∙◌}
use Prim.Native.Nat.{ℕ, suc, ◌+◌, ◌≤◌, ◌<◌}
use native.Mathlib.Nat.{le_refl}
use native.Mathlib.Numerals.{add-one}
use native.Mathlib.Omega.{arith}
use mathlib.Core.Bool.{Bool}
use mathlib.Core.List.{List, [], ◌∷◌, ◌++◌, append-nil}
use lib.ListN.{length, take, drop, get_or, set, length-set, drop_of_length-le}
use lib.Seq.{take_all, take-suc-set, drop-set-lt, drop-cons, append_snoc}
use lib.Ieee.{Float, nan}
use Rattle.operator.specs.Sample.{mixed, sampled, moved}
use Rattle.operator.specs.Chain.{Source, Chain, entered, kept, through, all_moved, heard, next, ended, written}
use Rattle.operator.specs.Chain.{alone, Rendered}
use Rattle.operator.specs.Parts.{Going}
use Rattle.operator.specs.declared.Lane.{Lane}
use Rattle.operator.specs.declared.Feedback.{Feedback}

-- one sample more
module _ (pairs : List Float) (source : Source) (add : Bool) where
  written_more : (i : ℕ) (s : Chain) (out : List Float) → i < length out
      → written pairs source add i s (drop i out)
      ≡ mixed add (get_or out i nan) (heard pairs source i s) ∷ written pairs source add (suc i) (next pairs source i s)
      (drop (suc i) out)
  unfolding written
  written_more i s out h = ap (written pairs source add i s) (drop-cons out i nan h)

  ended_more : (i : ℕ) (s : Chain) (out : List Float) → i < length out
      → ended pairs source (length (drop i out)) i s
      ≡ ended pairs source (length (drop (suc i) out)) (suc i) (next pairs source i s)
  unfolding ended
  ended_more i s out h = ap (λ (l : List Float). ended pairs source (length l) i s) (drop-cons out i nan h)

module _ {pairs : List Float} {source : Source} {add : Bool} where
  pub going_first : {i : ℕ} {s : Chain} {out : List Float} → Going pairs source add i s out i s out
  going_first = record { samples = refl; chains = refl; size = refl }

  -- part after part
  pub going_on : {i j k : ℕ} {s t u : Chain} {out mid after : List Float}
      → Going pairs source add i s out j t mid → Going pairs source add j t mid k u after
      → Going pairs source add i s out k u after
  going_on g h = record {
    samples = h.samples ∙ g.samples;
    chains = h.chains ∙ g.chains;
    size = h.size ∙ g.size;
  }

  pub going_turn : {i j : ℕ} {s t t' : Chain} {out after : List Float} {v : Float}
      → Going pairs source add i s out j t after → j < length after
      → t' ≡ next pairs source j t → v ≡ mixed add (get_or after j nan) (heard pairs source j t)
      → Going pairs source add i s out (j + 1) t' (set after j v)
  going_turn {j = j} {t = t} {after = after} {v = v} r h et ev =
      let past = drop-set-lt (suc j) after j v (le_refl (suc j)) in
      record {
        samples = rw (
          add-one j,
          take-suc-set after j v h,
          past,
          append_snoc,
          et,
          ev,
          ← written_more pairs source add j t after h,
        ) r.samples;
        chains = rw (add-one j, past, et, ← ended_more pairs source add j t after h) r.chains;
        size = length-set after j v ∙ r.size;
      }

  -- the same by the chain's parts, as a turn of the code makes them
  pub turn_parts : {i j : ℕ} {s : Chain} {ls ls' : List Lane} {f f' : Feedback} {out after : List Float} {pm v : Float}
      → Going pairs source add i s out j (record { lanes = ls; feedback = f }) after → j < length after
      → pm ≡ through pairs ls (entered source j f)
      → ls' ≡ all_moved ls → f' ≡ kept source f pm → v ≡ mixed add (get_or after j nan) pm
      → Going pairs source add i s out (j + 1) (record { lanes = ls'; feedback = f' }) (set after j v)
  unfolding heard next
  turn_parts r h ep el ef ev = going_turn r h (rw (el, ef, ep)) (rw (ev, ep))

  -- the whole block
  pub going_done : {j : ℕ} {s t : Chain} {out after : List Float}
      → Going pairs source add 0 s out j t after → length after ≤ j → Rendered pairs source add s out t after
  unfolding written ended
  going_done {j = j} {after = after} r h = record {
    samples = sym (append-nil after) ∙ (rw (take_all j after h, drop_of_length-le after h) at r.samples);
    chain = rw (drop_of_length-le after h) at r.chains;
  }

-- ---- a sample of a chain, operator by operator

-- k operators have passed a sample on: what is left of the chain `now` makes of `pm` what the whole made of the first
pub record Passed (pairs : List Float) (ls : List Lane) (first : Float) (k : ℕ) (now : List Lane) (pm : Float)
    : Type 0 where
  pub sample : through pairs (drop k now) pm ≡ through pairs ls first
  pub lanes : take k now ++ all_moved (drop k now) ≡ all_moved ls
  pub size : length now ≡ length ls

module _ {pairs : List Float} {ls : List Lane} {first : Float} where
  pub passed_first : Passed pairs ls first 0 ls first
  passed_first = record { sample = refl; lanes = refl; size = refl }

  pub passed_turn : {k : ℕ} {now : List Lane} {pm pm' : Float} {l l' : Lane} (past : Lane)
      → Passed pairs ls first k now pm → k < length now → l ≡ get_or now k past
      → pm' ≡ sampled pairs l pm → l' ≡ moved l → Passed pairs ls first (k + 1) (set now k l') pm'
  unfolding through all_moved
  passed_turn {k} {now} {pm} {pm'} {l} {l'} past p h e ep el =
      let rest = drop-set-lt (suc k) now k l' (le_refl (suc k)) in
      let here = drop-cons now k past h in
      record {
        sample = rw (add-one k, rest, ep, e) (ap (λ (z : List Lane). through pairs z pm) (sym here) ∙ p.sample);
        lanes = rw (add-one k, take-suc-set now k l' h, rest, append_snoc, el, e)
            (ap (λ (z : List Lane). take k now ++ all_moved z) (sym here) ∙ p.lanes);
        size = length-set now k l' ∙ p.size;
      }

  pub passed_done : {k : ℕ} {now : List Lane} {pm : Float} → Passed pairs ls first k now pm → length now ≤ k
      → (pm ≡ through pairs ls first) × (now ≡ all_moved ls)
  unfolding through all_moved
  passed_done {k} {now} {pm} p h =
      let none = drop_of_length-le now h in
      (rw none at p.sample, sym (append-nil now) ∙ (rw (take_all k now h, none) at p.lanes))

-- a chain of one is its operator alone
pub lone : {pairs : List Float} {source : Source} {add : Bool} (ls : List Lane) (past : Lane) (f : Feedback)
    {out after : List Float} {e : Chain} → length ls ≡ 1
    → Rendered pairs source add (alone (get_or ls 0 past) f) out e after
    → Rendered pairs source add (record { lanes = ls; feedback = f }) out e after
lone [] past f h r = absurd (omega (arith, h))
lone (l ∷ []) past f h r = r
lone (l ∷ m ∷ ls) past f h r = absurd (omega (arith, h))

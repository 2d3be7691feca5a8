-- What is kept of the frame after all bytes of a dump is the channel, or above 15 where the frame is wrong. Assumes
-- nothing.
use mathlib.Core.Path.{◌≡◌, refl, ◌∙◌, ap}
use mathlib.Core.Bool.{Bool, true, false, cond, ◌&&◌, and-false, and-true, false≢true}
use mathlib.Core.List.{List, [], ◌∷◌, ◌++◌}
use Prim.Native.Nat.{ℕ, zero, suc, ◌+◌, ◌≤◌, ◌<◌}
use native.Mathlib.Omega.{arith}
use borrow.Author.Tests.{ne_eqb, le-leb, le-ltb}
use lib.Dec.{eqb, leb}
use lib.ListN.{length, get_or, drop, drop_of_length-le}
use lib.Seq.{drop-cons}
use Rattle.dump.specs.Dump.{in_row, in_rows, framed, channel_byte}
use Rattle.bank.specs.Bank.{bank_form}
use Rattle.bank_pieces.specs.Pieces.{is_right, frame_with}

-- what bytes from a place on leave of the frame
unfoldable pub frame_from : ℕ → ℕ → List ℕ → ℕ
frame_from k f [] = f
frame_from k f (b ∷ bs) = frame_from (suc k) (frame_with k f b) bs

-- one byte more at the end
pub frame_snoc : (k f : ℕ) (xs : List ℕ) (b : ℕ)
    → frame_from k f (xs ++ (b ∷ [])) ≡ frame_with (k + length xs) (frame_from k f xs) b
unfolding frame_from
frame_snoc k f [] b = ap (λ (n : ℕ). frame_with n f b) (omega arith)
frame_snoc k f (x ∷ xs) b =
    frame_snoc (suc k) (frame_with k f x) xs b
    ∙ ap (λ (n : ℕ). frame_with n (frame_from (suc k) (frame_with k f x) xs) b) (omega arith)

-- data, the checksum and what is too much are not the frame's
pub frame_other : (k f b : ℕ) → 6 ≤ k → (k ≡ 4103 → ⊥) → frame_with k f b ≡ f
unfolding frame_with is_right
frame_other k f b l n = rw (ne_eqb k 2 (λ e. omega arith), le-ltb k 6 l, ne_eqb k 4103 n)

-- THE TESTS of the frame: a wrong byte leaves 255, and the third byte stays
abbrev keep : Bool → ℕ → ℕ
keep r f = cond r f 255

-- what the tests of the seven bytes leave, t the third byte
abbrev kept : Bool → Bool → ℕ → Bool → Bool → Bool → Bool → ℕ
kept a b t c d e l = keep l (keep e (keep d (keep c (cond (eqb (keep b (keep a 0)) 255) 255 t))))

-- what they leave is at most 15 exactly if all is right
all_right : (a b : Bool) (t : ℕ) (c d e l : Bool) → leb (kept a b t c d e l) 15
    ≡ ((a && (b && ((leb 0 t && leb t 15) && (c && (d && (e && true)))))) && l)
all_right a b t c d e false = simp and-false
all_right a b t c d false true = simp and-false
all_right a b t c false true true = simp and-false
all_right a b t false true true true = simp and-false
all_right a false t true true true true = simp and-false
all_right false true t true true true true = refl
all_right true true t true true true true = simp (le-leb 0 t (omega arith), and-true)

-- and then it is the third byte
third_kept : (a b : Bool) (t : ℕ) (c d e l : Bool) → leb (kept a b t c d e l) 15 ≡ true → kept a b t c d e l ≡ t
third_kept a b t c d e false h = absurd (false≢true h)
third_kept a b t c d false true h = absurd (false≢true h)
third_kept a b t c false true true h = absurd (false≢true h)
third_kept a b t false true true true h = absurd (false≢true h)
third_kept a false t true true true true h = absurd (false≢true h)
third_kept false true t true true true true h = absurd (false≢true h)
third_kept true true t true true true true h = refl

-- THE FRAME of a dump as long as a bank
module _ (dump : List ℕ) (long : length dump ≡ 4104) where
  -- the next byte
  frame_next : (k f : ℕ) → k < 4104
      → frame_from k f (drop k dump) ≡ frame_from (suc k) (frame_with k f (get_or dump k 0)) (drop (suc k) dump)
  unfolding frame_from
  frame_next k f l = rw (drop-cons dump k 0 (omega arith))

  -- behind the sixth byte only the last one counts
  frame_rest : (n k f : ℕ) → 6 ≤ k → k + n ≡ 4103
      → frame_from k f (drop k dump) ≡ frame_with 4103 f (get_or dump 4103 0)
  unfolding frame_from
  frame_rest zero k f l e =
      let last : k ≡ 4103 = omega arith in
      rw (last, frame_next 4103 f (omega arith), drop_of_length-le dump {i = 4104} (omega arith))
  frame_rest (suc n) k f l e =
      rw (frame_next k f (omega arith), frame_other k f (get_or dump k 0) l (λ q. omega arith))
      (frame_rest n (suc k) f (omega arith) (omega arith))

  -- so the tests of seven bytes are all of it
  abbrev row : ℕ → Bool
  row k = in_row (get_or bank_form.header k (record { from = 0; to = 0 })) (get_or dump k 0)

  abbrev last : Bool
  last = in_row bank_form.last (get_or dump 4103 0)

  abbrev left : ℕ
  left = kept (row 0) (row 1) (get_or dump 2 0) (row 3) (row 4) (row 5) last

  -- what is kept of the dump is what its own tests leave
  frame_is : frame_from 0 0 dump ≡ left
  unfolding frame_with is_right
  frame_is =
      frame_next 0 _ (omega arith) ∙ frame_next 1 _ (omega arith) ∙ frame_next 2 _ (omega arith)
      ∙ frame_next 3 _ (omega arith) ∙ frame_next 4 _ (omega arith) ∙ frame_next 5 _ (omega arith)
      ∙ frame_rest 4097 6 _ (omega arith) refl

  -- and the frame is right by the same tests
  left_right : leb left 15 ≡ framed bank_form dump
  unfolding in_rows bank_form
  left_right = all_right (row 0) (row 1) (get_or dump 2 0) (row 3) (row 4) (row 5) last

  -- it is at most 15 exactly if the frame is right
  pub frame_right : leb (frame_from 0 0 dump) 15 ≡ framed bank_form dump
  frame_right = rw frame_is left_right

  -- and then the channel
  pub frame_channel : framed bank_form dump ≡ true → frame_from 0 0 dump ≡ channel_byte dump
  frame_channel h =
      frame_is ∙ third_kept (row 0) (row 1) (get_or dump 2 0) (row 3) (row 4) (row 5) last (left_right ∙ h)

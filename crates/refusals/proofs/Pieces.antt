-- Pieces of text put one after the other, and how long texts are. Assumes nothing.
use mathlib.Core.Path.{◌≡◌, refl, sym, ap, ◌∙◌}
use Prim.Native.Nat.{ℕ, zero, suc, ◌+◌, ◌-◌, ◌/◌, ◌≤◌}
use Prim.Native.String.{String}
use native.Mathlib.Nat.{add-zero}
use native.Mathlib.Omega.{arith}
use mathlib.Core.Bool.{Bool, true, false, cond}
use mathlib.Core.List.{List, [], ◌∷◌, ◌++◌}
use lib.ListN.{length, get_or, set, drop, take, length-append}
use lib.Dec.{leb, ltb}
use borrow.Rule.Slice.PartMut.{put_mid}
use Rattle.std.proofs.lemmas.List.Edits.{sets-eq}
use Rattle.std.proofs.Common.{append_assoc}
use lib.Seq.{sets, length-sets, length-take-le, drop-drop}
use borrow.Author.Tests.{leb-true}
use Rattle.std.specs.Prelude.{codes, decimal as printed_number}
use Rattle.std.specs.Fmt.{digits}
use Rattle.refusals.specs.Refusals.{words, words_of, letters, digit, decimal, refusal, Begins, Put}
use Rattle.refusals.specs.Answer.{number_of}
use Rattle.refusals.specs.declared.Refusal.{Refusal}
use Rattle.refusals.specs.declared.Refusal.TheVariants.{ShortPatch, WrongTable, NoRenderer, UnsetBuffer, SampleRate}
use Rattle.refusals.specs.declared.Refusal.TheVariants.{Field, Parameter, BlockLength, ForeignState, WrongLength}
use Rattle.refusals.specs.declared.Refusal.TheVariants.{FrameByte, HighByte, Checksum}

-- ---- pieces one after the other

-- what a copy into a part leaves
pub put_piece : (out piece : List ℕ) (at : ℕ) → at + length piece ≤ length out
    → put_mid at (at + length piece - at) out piece ≡ sets out at piece
put_piece out piece at h =
    let k : at + length piece - at ≡ length piece = omega arith in
    rw (k, sets-eq piece out at h, drop-drop (length piece) at out) (sym (append_assoc (take at out) piece (drop (at + length piece) out)))

sets_append : (xs ys l : List ℕ) (i : ℕ) → sets (sets l i xs) (i + length xs) ys ≡ sets l i (xs ++ ys)
sets_append [] ys l i = rw add-zero
sets_append (x ∷ xs) ys l i =
    let e : i + suc (length xs) ≡ suc i + length xs = omega arith in
    rw e (sets_append xs ys (set l i x) (suc i))

pub then : (before middle after : List ℕ) (at b c : ℕ) (p q : List ℕ)
    → Put before at p middle b → Put middle b q after c → Put before at (p ++ q) after c
then before middle after at b c p q v w = record {
  place = omega (arith, v.place, w.place, length-append p q);
  buffer = w.buffer ∙ rw (v.buffer, v.place) (sets_append p q before at);
}

pub decimal_size : (n : ℕ) → length (decimal n) ≤ 3
unfolding decimal
decimal_size n = pick (ltb n 10) (ltb n 100)
  where
    pick : (a b : Bool)
        → length
        (cond a (digit n ∷ [])
        (cond b (digit (n / 10) ∷ digit n ∷ []) (digit (n / 100) ∷ digit (n / 10) ∷ digit n ∷ []))) ≤ 3
    pick true b = omega arith
    pick false true = omega arith
    pick false false = omega arith

-- ---- the whole text

-- each of some texts takes no more than 48 bytes
unfoldable fit : List String → Bool
fit [] = true
fit (w ∷ ws) = cond (leb (length (letters w)) 48) (fit ws) false

each_fits : (ws : List String) (n : ℕ) → fit ws ≡ true → length (letters (get_or ws n "no such number")) ≤ 48
unfolding fit letters
each_fits [] n e = omega arith
each_fits (w ∷ ws) zero e = pick (leb (length (letters w)) 48) refl e
  where
    pick : (t : Bool) → leb (length (letters w)) 48 ≡ t → cond t (fit ws) false ≡ true → length (letters w) ≤ 48
    pick true h e = leb-true (length (letters w)) 48 h
    pick false h e = grind arith
each_fits (w ∷ ws) (suc n) e = pick (leb (length (letters w)) 48) e (each_fits ws n)
  where
    pick : {P : Type 0} (t : Bool) → cond t (fit ws) false ≡ true → (fit ws ≡ true → P) → P
    pick true e go = go e
    pick false e go = grind arith

-- the words of a number too
pub words_size : (n : ℕ) → length (letters (words_of n)) ≤ 48
unfolding fit letters words words_of
words_size n = each_fits words n refl

pub told : (before after : List ℕ) (n r : ℕ)
    → Put before 0 (letters "refused " ++ (decimal n ++ (letters ": " ++ letters (words_of n)))) after r
    → Begins before (refusal n) after r
unfolding refusal letters
told before after n r w =
    let s : length (refusal n) ≤ 64 = simp length-append (omega (arith, decimal_size n, words_size n)) in
    record {
      size = omega (arith, w.place);
      fits = omega (arith, w.place);
      buffer = w.buffer;
    }

-- what was told lies within the buffer, and the part of the buffer that holds it is as long as it
module _ (before text after : List ℕ) (r : ℕ) (l : length before ≡ 64) (w : Begins before text after r) where
  pub within : r ≤ length after
  within =
      let k : length after ≡ 64 = ap length w.buffer ∙ length-sets before 0 text ∙ l in
      omega (arith, w.fits)

  pub part : r ≡ length (take r after)
  part = sym (length-take-le r after within)

-- ---- the text that programs print

-- a refusal's number has one or two digits, which std writes as this text does
module _ (words : List ℕ) where
  printed : (r : Refusal) → codes "refused " ++ (printed_number (number_of r) ++ (codes ": " ++ words))
      ≡ letters "refused " ++ (decimal (number_of r) ++ (letters ": " ++ words))
  unfolding letters decimal digit digits
  printed ShortPatch = refl
  printed WrongTable = refl
  printed (NoRenderer at) = refl
  printed (UnsetBuffer at) = refl
  printed SampleRate = refl
  printed Field = refl
  printed Parameter = refl
  printed BlockLength = refl
  printed ForeignState = refl
  printed WrongLength = refl
  printed FrameByte = refl
  printed HighByte = refl
  printed Checksum = refl

pub shown : (r : Refusal) (number : ℕ) (words : List ℕ) → number ≡ number_of r
    → words ≡ letters (words_of (number_of r))
    → codes "refused " ++ (printed_number number ++ (codes ": " ++ words)) ≡ refusal (number_of r)
unfolding refusal
shown r number words e w = rw (e, w) (printed (letters (words_of (number_of r))) r)

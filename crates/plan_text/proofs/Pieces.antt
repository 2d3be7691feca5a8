-- Pieces of text one after the other, and how long they are.
-- Assumes nothing.
use mathlib.Core.Path.{◌≡◌, refl, sym, ap, ◌∙◌}
use Prim.Native.Nat.{ℕ, ◌+◌, ◌*◌, ◌/◌, ◌≤◌, ◌<◌}
use native.Mathlib.Numerals.{add-one}
use native.Mathlib.Omega.{arith}
use mathlib.Core.Bool.{Bool, true, false, cond}
use mathlib.Core.List.{List, [], ◌∷◌, ◌++◌, append_assoc, append-nil}
use lib.ListN.{length, get_or, take, length-append, length-take}
use lib.Dec.{eqb}
use lib.Seq.{sets, length-sets, length-take-le, take-suc, take_all}
use borrow.Rule.Slice.PartMut.{post_of}
use Rattle.std.proofs.lemmas.List.Edits.{sets-eq}
use Rattle.algorithms.specs.Plan.{no_call, planned}
use Rattle.algorithms.specs.Table.{six}
use Rattle.std.specs.Prelude.{Result, Ok, Err, IfOk}
use Rattle.refusals.specs.declared.Refusal.{Refusal}
use Rattle.refusals.specs.declared.Refusal.TheVariants.{ShortPatch, WrongTable, NoRenderer, UnsetBuffer, SampleRate}
use Rattle.refusals.specs.declared.Refusal.TheVariants.{Field, Parameter, BlockLength, ForeignState, WrongLength}
use Rattle.refusals.specs.declared.Refusal.TheVariants.{FrameByte, HighByte, Checksum}
use Rattle.algorithms.specs.declared.Plan.{Plan}
use Rattle.algorithms.proofs.Accepted.{accepted_six, planned_few}
use Rattle.algorithms.specs.declared.Call.{Call}
use Rattle.plan_text.specs.Text.{Written, word_row, word_none, at_text, word_feedback, word_external, hex_digit}
use Rattle.plan_text.specs.Text.{bytes_text, row_text, count_text, source_text, way_text, call_text, calls_text}
use Rattle.plan_text.specs.Text.{refusal_text, planned_text, plan_text}

-- a text with a piece more is as long as both
pub longer : {t : List ℕ} (before piece : List ℕ) → t ≡ before ++ piece → length t ≡ length before + length piece
longer before piece e = ap length e ∙ length-append before piece

-- pieces one behind the other are one piece
pub two_pieces : {a b : List ℕ} (t p q : List ℕ) → a ≡ t ++ p → b ≡ a ++ q → b ≡ t ++ (p ++ q)
two_pieces t p q e f = f ∙ rw e (append_assoc t p q)

pub three_pieces : {a b c : List ℕ} (t p q r : List ℕ) → a ≡ t ++ p → b ≡ a ++ q → c ≡ b ++ r → c ≡ t ++ (p ++ (q ++ r))
three_pieces {a} {b} t p q r e f g = two_pieces t p (q ++ r) e (two_pieces a q r f g)

pub four_pieces : {a b c d : List ℕ} (t p q r s : List ℕ) → a ≡ t ++ p → b ≡ a ++ q → c ≡ b ++ r → d ≡ c ++ s
    → d ≡ t ++ (p ++ (q ++ (r ++ s)))
four_pieces {a} {b} {c} t p q r s e f g h = two_pieces t p (q ++ (r ++ s)) e (three_pieces a q r s f g h)

-- the element that a loop is at
pub call_at : {b : List ℕ} {c : Call} (a : List ℕ) (l : List Call) (k : ℕ) → c ≡ get_or l k no_call
    → b ≡ a ++ call_text c
    → b ≡ a ++ call_text (get_or l k no_call)
call_at a l k e f = rw (← e) f

-- a text that is stored at a buffer's start
pub stored : (out text : List ℕ) (n : ℕ) {start : List ℕ} → start ≡ text → n ≡ length text → length text ≤ length out
    → start ++ post_of 0 n out ≡ sets out 0 text
stored out text n e k h =
    let z : 0 + length text ≡ length text = omega arith in
    rw (e, k) (sym (rw z at (sets-eq text out 0 (omega arith))))

-- ---- the lines

bytes_append : (xs ys : List ℕ) → bytes_text (xs ++ ys) ≡ bytes_text xs ++ bytes_text ys
unfolding bytes_text
bytes_append [] ys = refl
bytes_append (x ∷ xs) ys = rw (bytes_append xs ys)

pub bytes_more : (l : List ℕ) (k : ℕ) → k < length l
    → bytes_text (take (k + 1) l) ≡ bytes_text (take k l) ++ (32 ∷ hex_digit (get_or l k 0 / 16) ∷ hex_digit (get_or l
    k 0) ∷ [])
unfolding bytes_text
bytes_more l k h = rw (add-one, take-suc l k 0 h) (bytes_append (take k l) (get_or l k 0 ∷ []))

calls_append : (xs ys : List Call) → calls_text (xs ++ ys) ≡ calls_text xs ++ calls_text ys
unfolding calls_text
calls_append [] ys = refl
calls_append (x ∷ xs) ys = rw (calls_append xs ys, append_assoc)

pub bytes_size : (l : List ℕ) → length (bytes_text l) ≡ 3 * length l
unfolding bytes_text
bytes_size [] = refl
bytes_size (x ∷ l) = omega (arith, bytes_size l)

-- the line of a row as far as its bytes are written
pub row_so_far : {t : List ℕ} (before bytes : List ℕ) (k : ℕ) → k ≤ length bytes
    → t ≡ before ++ (word_row ++ bytes_text (take k bytes)) → length t ≡ length before + 3 + 3 * k
row_so_far before bytes k h e =
    omega (
      arith,
      longer before (word_row ++ bytes_text (take k bytes)) e,
      bytes_size (take k bytes),
      length-take-le k
          bytes h,
    )

pub row_more : {a b c d : List ℕ} (t l : List ℕ) (k : ℕ) → k < length l → a ≡ t ++ (word_row ++ bytes_text (take k l))
    → b ≡ a ++ (32 ∷ []) → c ≡ b ++ (hex_digit (get_or l k 0 / 16) ∷ []) → d ≡ c ++ (hex_digit (get_or l k 0) ∷ [])
    → d ≡ t ++ (word_row ++ bytes_text (take (k + 1) l))
row_more t l k h e₁ e₂ e₃ e₄ =
    let p = word_row ++ bytes_text (take k l) in
    let x = hex_digit (get_or l k 0 / 16) in
    let y = hex_digit (get_or l k 0) in
    two_pieces t (p ++ (32 ∷ [])) (x ∷ y ∷ []) (two_pieces t p (32 ∷ []) e₁ e₂) (two_pieces _ (x ∷ []) (y ∷ []) e₃ e₄)
    ∙ rw (bytes_more l k h) (ap (λ (r : List ℕ). t ++ r) (append_assoc p (32 ∷ []) (x ∷ y ∷ []) ∙ append_assoc
    word_row (bytes_text (take k l)) (32 ∷ x ∷ y ∷ [])))

pub row_done : {a b : List ℕ} (t l : List ℕ) (k : ℕ) → length l ≤ k → a ≡ t ++ (word_row ++ bytes_text (take k l))
    → b ≡ a ++ (10 ∷ []) → b ≡ t ++ row_text l
unfolding row_text
row_done t l k h e f =
    two_pieces t (word_row ++ bytes_text l) (10 ∷ []) (e ∙ rw (take_all k l h) refl) f
    ∙ ap (λ (r : List ℕ). t ++ r) (append_assoc word_row (bytes_text l) (10 ∷ []))

pub calls_more : (l : List Call) (k : ℕ) → k < length l
    → calls_text (take (k + 1) l) ≡ calls_text (take k l) ++ call_text (get_or l k no_call)
unfolding calls_text
calls_more l k h = rw (add-one, take-suc l k no_call h) (calls_append (take k l) (get_or l k no_call ∷ []) ∙ rw
    append-nil)

-- a line for each call
pub call_more : {a b : List ℕ} (t : List ℕ) (l : List Call) (k : ℕ) → k < length l → a ≡ t ++ calls_text (take k l)
    → b ≡ a ++ call_text (get_or l k no_call) → b ≡ t ++ calls_text (take (k + 1) l)
call_more t l k h e f = rw (calls_more l k h) (two_pieces t (calls_text (take k l)) (call_text (get_or l k no_call)) e
    f)

-- ---- how long they are

pub source_size : (input : ℕ) → length (source_text input) ≤ 9
unfolding source_text
source_size input = pick (eqb input 0) (eqb input 3)
  where
    pick : (b d : Bool) → length (cond b word_none (cond d word_feedback word_external)) ≤ 9
    pick true d = omega arith
    pick false true = omega arith
    pick false false = omega arith

pub way_size : (add : Bool) → length (way_text add) ≡ 4
unfolding way_text
way_size true = refl
way_size false = refl

pub call_size : (c : Call) → length (call_text c) ≤ 21
unfolding call_text
call_size c = simp length-append (omega (arith, source_size c.input, way_size c.add))

pub calls_size : (l : List Call) → length (calls_text l) ≤ 21 * length l
unfolding calls_text
calls_size [] = omega arith
calls_size (c ∷ l) = simp length-append (omega (arith, call_size c, calls_size l))

pub row_size : (l : List ℕ) → length (row_text l) ≡ 4 + 3 * length l
unfolding row_text
row_size l = simp length-append (omega (arith, bytes_size l))

pub count_size : (n : ℕ) → length (count_text n) ≡ 8
unfolding count_text
count_size n = refl

-- ---- the whole text

module _ (bytes : List ℕ) (p : Plan) (e : planned (length bytes) (six bytes) ≡ Ok p) where
  -- an accepted row is short, and so are the lines before the calls
  pub row_most : length bytes ≤ 6
  row_most = accepted_six (length bytes) (six bytes) p e

  pub calls_most : p.count ≤ 6
  calls_most = omega (arith, row_most, planned_few (length bytes) (six bytes) p e)

-- a refusal that names no operator
pub at_other : (e : Refusal) → ((at : ℕ) → e ≡ NoRenderer at → ⊥) → ((at : ℕ) → e ≡ UnsetBuffer at → ⊥)
    → at_text e ≡ 10 ∷ []
unfolding at_text
at_other (NoRenderer at) h k = absurd (h at refl)
at_other (UnsetBuffer at) h k = absurd (k at refl)
at_other ShortPatch h k = refl
at_other WrongTable h k = refl
at_other SampleRate h k = refl
at_other Field h k = refl
at_other Parameter h k = refl
at_other BlockLength h k = refl
at_other ForeignState h k = refl
at_other WrongLength h k = refl
at_other FrameByte h k = refl
at_other HighByte h k = refl
at_other Checksum h k = refl

at_size : (e : Refusal) → length (at_text e) ≤ 6
unfolding at_text
at_size (NoRenderer at) = omega arith
at_size (UnsetBuffer at) = omega arith
at_size ShortPatch = omega arith
at_size WrongTable = omega arith
at_size SampleRate = omega arith
at_size Field = omega arith
at_size Parameter = omega arith
at_size BlockLength = omega arith
at_size ForeignState = omega arith
at_size WrongLength = omega arith
at_size FrameByte = omega arith
at_size HighByte = omega arith
at_size Checksum = omega arith

-- the whole text fits the buffer
pub text_size : (bytes : List ℕ) → length (plan_text bytes) ≤ 160
unfolding plan_text planned_text refusal_text
text_size bytes = go (planned (length bytes) (six bytes)) refl
  where
    go : (r : Result Plan Refusal) → planned (length bytes) (six bytes) ≡ r → length (planned_text bytes r) ≤ 160
    go (Ok p) e =
        let k = length-take p.count p.calls in
        simp length-append (omega (
          arith,
          row_size bytes,
          row_most bytes p e,
          calls_most bytes p e,
          count_size
              p.count,
          calls_size (take p.count p.calls),
          k,
        ))
    go (Err r) e = omega (arith, at_size r)

-- an accepted row is short, and so is its plan
pub few : (bytes : List ℕ) (r : Result Plan Refusal) → r ≡ planned (length bytes) (six bytes)
    → IfOk r (λ p. (length bytes ≤ 6) × (p.count ≤ 6))
few bytes (Ok p) e = (row_most bytes p (sym e), calls_most bytes p (sym e))
few bytes (Err r) e = tt

-- what was printed lies within the buffer, and the part of the buffer that holds it is as long as it
module _ (before after bytes : List ℕ) (r : ℕ) (l : length before ≡ 160) (w : Written before 0 (plan_text bytes) after
    r) where
  pub printed_within : r ≤ length after
  printed_within =
      let k : length after ≡ 160 = ap length w.buffer ∙ length-sets before 0 (plan_text bytes) ∙ l in
      omega (arith, w.next_place, text_size bytes)

  pub printed_part : r ≡ length (take r after)
  printed_part = sym (length-take-le r after printed_within)

-- Dumps in Yamaha's frame, there and back: what is written is sound and has the channel and the data, and a sound dump
-- is what is written of its own. Assumes nothing.
use mathlib.Core.Path.{◌≡◌, refl, sym, ◌∙◌, ap, ap₂}
use mathlib.Core.Bool.{true, and-eq-true_iff}
use mathlib.Core.List.{List, [], ◌∷◌, ◌++◌}
use Prim.Native.Nat.{ℕ, suc, ◌+◌, ◌/◌, ◌%◌, ◌≤◌}
use native.Mathlib.Nat.{add_assoc}
use native.Mathlib.Omega.{arith}
use borrow.Author.Tests.{leb-true, le-leb}
use lib.Dec.{leb}
use lib.ListN.{length, get_or, take, drop, length-append, length-take, length-drop, take-append-drop}
use lib.ListN.{drop_of_length-le}
use lib.Seq.{take-append_seam, get_or-append-add, get_or-append_seam, drop-drop, drop-cons}
use Rattle.std.specs.Prelude.{Ok}
use Rattle.dump.specs.declared.Row.{Row}
use Rattle.dump.specs.declared.Form.{Form}
use Rattle.dump.specs.Dump.{in_row, in_rows, fixed, yamaha_form, sum_place, size_of, framed, channel_byte}
use Rattle.dump.specs.Dump.{data_of, sum_byte, largest_of, checksum_of, dump_check}
use Rattle.dump.proofs.Sums.{checksum_summed, summed_checksum}
use Rattle.dump.proofs.Channels.{sixteen_row}
use Rattle.dump.proofs.Numbers.{sound, is_sound}
use Rattle.dump_writer.specs.Written.{written_of}

-- a byte is within the row of a fixed one exactly if it is that
in_fixed : (b : ℕ) → in_row (fixed b) b ≡ true
in_fixed b = rw (le-leb b b (omega arith))

of_fixed : (b x : ℕ) → in_row (fixed b) x ≡ true → x ≡ b
of_fixed b x e =
    let h = (and-eq-true_iff (leb b x) (leb x b)).0 e in
    omega (arith, leb-true b x h.0, leb-true x b h.1)

first_row : (r : Row) (rs : List Row) (dump : List ℕ) (k : ℕ) → in_rows (r ∷ rs) dump k ≡ true
    → (in_row r (get_or dump k 0) ≡ true) × (in_rows rs dump (suc k) ≡ true)
unfolding in_rows
first_row r rs dump k e = (and-eq-true_iff (in_row r (get_or dump k 0)) (in_rows rs dump (suc k))).0 e

module _ (format channel : ℕ) (bytes : List ℕ) where
  abbrev own : Form
  own = yamaha_form format (length bytes)

  abbrev tail : List ℕ
  tail = checksum_of bytes ∷ 0xF7 ∷ []

  abbrev whole : List ℕ
  whole = written_of own channel bytes

  -- its bytes
  abbrev head : List ℕ
  head = 0xF0 ∷ 0x43 ∷ channel ∷ format ∷ length bytes / 128 % 128 ∷ length bytes % 128 ∷ []

  pub bytes_written : whole ≡ head ++ (bytes ++ tail)
  bytes_written = refl

  pub length_written : length whole ≡ size_of own
  length_written = ap length bytes_written ∙ simp (length-append bytes tail) (omega arith)

  pub channel_written : channel_byte whole ≡ channel
  channel_written = ap (λ (l : List ℕ). get_or l 2 0) bytes_written

  pub data_written : data_of own whole ≡ bytes
  data_written = ap (λ (l : List ℕ). take (length bytes) (drop 6 l)) bytes_written ∙ take-append_seam bytes tail

  sum_written : sum_byte own whole ≡ checksum_of bytes
  sum_written =
      ap (λ (l : List ℕ). get_or l (6 + length bytes) 0) bytes_written
      ∙ get_or-append-add head (bytes ++ tail) (length bytes) 0
      ∙ get_or-append_seam bytes (checksum_of bytes) (0xF7 ∷ []) 0

  last_written : get_or whole (sum_place own + 1) 0 ≡ 0xF7
  last_written =
      ap (λ (l : List ℕ). get_or l (6 + length bytes + 1) 0) bytes_written
      ∙ ap (λ (k : ℕ). get_or (head ++ (bytes ++ tail)) k 0) (add_assoc 6 (length bytes) 1)
      ∙ get_or-append-add head (bytes ++ tail) (length bytes + 1) 0
      ∙ get_or-append-add bytes tail 1 0

  module _ (to : channel ≤ 15) where
    framed_written : framed own whole ≡ true
    unfolding in_rows
    framed_written =
        rw (
          last_written,
          in_fixed 0xF0,
          in_fixed 0x43,
          sixteen_row channel to,
          in_fixed format,
          in_fixed (length bytes / 128 % 128),
          in_fixed (length bytes % 128),
          in_fixed 0xF7,
        )

    -- data below 128 on one of sixteen channels make a sound dump
    pub sound_written : largest_of bytes ≤ 127 → dump_check own whole ≡ Ok tt
    sound_written low =
        sym (is_sound own whole length_written framed_written (rw data_written low)
        (rw (data_written, sum_written) (checksum_summed bytes)))

-- a list of six elements or more
six_first : (l : List ℕ) → 6 ≤ length l
    → l ≡ get_or l 0 0 ∷ get_or l 1 0 ∷ get_or l 2 0 ∷ get_or l 3 0 ∷ get_or l 4 0 ∷ get_or l 5 0 ∷ drop 6 l
six_first l h =
    drop-cons l 0 0 (omega arith)
    ∙ ap (λ (m : List ℕ). get_or l 0 0 ∷ m) (drop-cons l 1 0 (omega arith)
    ∙ ap (λ (m : List ℕ). get_or l 1 0 ∷ m) (drop-cons l 2 0 (omega arith)
    ∙ ap (λ (m : List ℕ). get_or l 2 0 ∷ m) (drop-cons l 3 0 (omega arith)
    ∙ ap (λ (m : List ℕ). get_or l 3 0 ∷ m) (drop-cons l 4 0 (omega arith)
    ∙ ap (λ (m : List ℕ). get_or l 4 0 ∷ m) (drop-cons l 5 0 (omega arith))))))

-- two elements behind the first n
two_last : (l : List ℕ) (n : ℕ) → length l ≡ n + 2 → drop n l ≡ get_or l n 0 ∷ get_or l (n + 1) 0 ∷ []
two_last l n e =
    drop-cons l n 0 (omega arith)
    ∙ ap (λ (m : List ℕ). get_or l n 0 ∷ m) (drop-cons l (suc n) 0 (omega arith)
    ∙ ap₂ (λ (k : ℕ) (m : List ℕ). get_or l k 0 ∷ m) (omega arith)
    (drop_of_length-le l {i = suc (suc n)} (omega arith)))

module _ (format count : ℕ) (dump : List ℕ) (accepted : dump_check (yamaha_form format count) dump ≡ Ok tt) where
  abbrev form : Form
  form = yamaha_form format count

  -- the data are as many as the form says, and below 128
  size : length dump ≡ 6 + count + 2
  size = (sound form dump accepted).long

  pub data_length : length (data_of form dump) ≡ count
  data_length = length-take count (drop 6 dump) ∙ simp (length-drop 6 dump, size) (omega arith)

  pub data_low : largest_of (data_of form dump) ≤ 127
  data_low = (sound form dump accepted).low

  -- every fixed byte of the frame stands there
  abbrev at : ℕ → ℕ
  at k = get_or dump k 0

  abbrev Frame : Type 0
  Frame =
      (at 0 ≡ 0xF0) × (at 1 ≡ 0x43) × (at 3 ≡ format) × (at 4 ≡ count / 128 % 128) × (at 5 ≡ count % 128)
      × (at (6 + count + 1) ≡ 0xF7)

  frame : Frame
  frame =
      let all = (and-eq-true_iff (in_rows form.header dump 0) (in_row (fixed 0xF7) (at (6 + count + 1)))).0
      (sound form dump accepted).right in
      let a = first_row _ _ dump 0 all.0 in
      let b = first_row _ _ dump 1 a.1 in
      let c = first_row _ _ dump 2 b.1 in
      let d = first_row _ _ dump 3 c.1 in
      let e = first_row _ _ dump 4 d.1 in
      let f = first_row _ _ dump 5 e.1 in (
        of_fixed 0xF0 (at 0) a.0,
        of_fixed 0x43 (at 1) b.0,
        of_fixed format (at 3) d.0,
        of_fixed (count / 128 % 128) (at 4) e.0,
        of_fixed (count % 128) (at 5) f.0,
        of_fixed 0xF7 (at (6 + count + 1)) all.1,
      )

  -- a sound dump is what is written of its channel and its data
  pub written_of_sound : written_of form (channel_byte dump) (data_of form dump) ≡ dump
  written_of_sound =
      let f = frame in
      let sum : at (6 + count) ≡ checksum_of (data_of form dump) =
      summed_checksum (data_of form dump) (sum_byte form dump) (sound form dump accepted).summing in
      let rest : drop 6 dump ≡ data_of form dump ++ (checksum_of (data_of form dump) ∷ 0xF7 ∷ []) =
      sym (take-append-drop count (drop 6 dump))
      ∙ ap (λ (l : List ℕ). take count (drop 6 dump) ++ l) (drop-drop count 6 dump ∙ two_last dump (6 + count) size
      ∙ ap₂ (λ (a b : ℕ). a ∷ b ∷ []) sum f.5) in
      let begun : dump ≡ 0xF0 ∷ 0x43 ∷ at 2 ∷ format ∷ count / 128 % 128 ∷ count % 128 ∷ drop 6 dump =
      six_first dump (omega (arith, size)) ∙ rw (f.0, f.1, f.2, f.3, f.4) in
      sym (begun
      ∙ ap (λ (l : List ℕ). 0xF0 ∷ 0x43 ∷ at 2 ∷ format ∷ count / 128 % 128 ∷ count % 128 ∷ l) rest)

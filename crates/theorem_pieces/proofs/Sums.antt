-- What is kept of the sum is that of all patches reported, and behind the checksum it tells 12 and 13. Assumes nothing.
use mathlib.Core.Path.{◌≡◌, ◌∙◌, ap}
use mathlib.Core.Bool.{Bool, true, false, cond, ◌&&◌, and-false, and-true}
use mathlib.Core.List.{List, [], ◌∷◌, ◌++◌}
use Prim.Native.Nat.{ℕ, ◌+◌, ◌%◌, ◌≤◌, max}
use native.Mathlib.Omega.{arith}
use native.Mathlib.Decide.{dec_le}
use borrow.Author.Tests.{le-leb, lt-leb, lt-ltb, le-ltb}
use lib.Dec.{eqb, leb}
use Rattle.dump.specs.Dump.{total, largest_of, summed}
use Rattle.bank_pieces.specs.Pieces.{summed_with, checked_with}

-- the sum and the largest of two runs of bytes
total_append : (xs ys : List ℕ) → total (xs ++ ys) ≡ total xs + total ys
unfolding total
total_append [] ys = omega arith
total_append (x ∷ xs) ys = let e = total_append xs ys in omega arith

largest_append : (xs ys : List ℕ) → largest_of (xs ++ ys) ≡ max (largest_of xs) (largest_of ys)
unfolding largest_of
largest_append [] ys = omega arith
largest_append (x ∷ xs) ys = let e = largest_append xs ys in omega arith

-- two numbers are at most 127 exactly if the larger one is
low_max : (m n : ℕ) → leb (max m n) 127 ≡ (leb m 127 && leb n 127)
low_max m n = elim (dec_le m 127) [
  | yes l ↦ elim (dec_le n 127) [
    | yes k ↦ rw (le-leb m 127 l, le-leb n 127 k, le-leb (max m n) 127 (omega arith))
    | no k ↦ rw (le-leb m 127 l, lt-leb n 127 (omega arith), lt-leb (max m n) 127 (omega arith))
  ]
  | no l ↦ rw (lt-leb m 127 (omega arith), lt-leb (max m n) 127 (omega arith))
]

-- 128 more tells that something was above 127
flag_low : (p : Bool) (n : ℕ) → n ≤ 127 → leb (cond p 0 128 + n) 127 ≡ p
flag_low true n l = le-leb (0 + n) 127 (omega arith)
flag_low false n l = lt-leb (128 + n) 127 (omega arith)

-- and is nothing to the sum
flag_sum : (p : Bool) (m n : ℕ) → (cond p 0 128 + (0 + m) % 128 + n) % 128 ≡ (0 + (m + n)) % 128
flag_sum true m n = omega arith
flag_sum false m n = omega arith

-- so the sum is at most 127 exactly if no byte is above
summed_low : (bytes : List ℕ) → leb (summed_with 0 bytes) 127 ≡ leb (largest_of bytes) 127
unfolding summed_with
summed_low bytes = flag_low (leb (largest_of bytes) 127) ((0 + total bytes) % 128) (omega arith)

-- the sum of two runs of bytes is that of both together
pub summed_append : (xs ys : List ℕ) → summed_with (summed_with 0 xs) ys ≡ summed_with 0 (xs ++ ys)
unfolding summed_with
summed_append xs ys =
    rw (summed_low xs, flag_sum (leb (largest_of xs) 127) (total xs) (total ys), total_append, largest_append, low_max)

-- what a checksum adds is no flag
unflagged : (q : Bool) (n : ℕ) → cond q (n % 128) 1 ≤ 127
unflagged true n = omega arith
unflagged false n = omega arith

-- THE TESTS behind the checksum
module _ (bytes : List ℕ) (c : ℕ) where
  -- a byte above 127
  pub sum_low : leb (checked_with (summed_with 0 bytes) c) 127 ≡ leb (largest_of bytes) 127
  unfolding checked_with
  sum_low =
      flag_low (leb (summed_with 0 bytes) 127) _ (unflagged (leb c 127) (summed_with 0 bytes + c)) ∙ summed_low bytes

  -- and where there is none, whether it completes the sum
  pub sum_right : largest_of bytes ≤ 127 → eqb (checked_with (summed_with 0 bytes) c) 0 ≡ summed bytes c
  unfolding checked_with summed_with
  sum_right h =
      let same : 0 + (0 + (0 + total bytes) % 128 + c) % 128 ≡ (total bytes + c) % 128 = omega arith in
      rw (le-leb (largest_of bytes) 127 h, le-leb (0 + (0 + total bytes) % 128) 127 (omega arith))
      (elim (dec_le c 127) [
        | yes l ↦ rw (le-leb c 127 l, lt-ltb c 128 (omega arith), and-true) (ap (λ (n : ℕ). eqb n 0) same)
        | no l ↦ rw (lt-leb c 127 (omega arith), le-ltb c 128 (omega arith), and-false)
      ])

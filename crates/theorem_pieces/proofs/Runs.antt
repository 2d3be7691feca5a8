-- Full runs of 128 bytes stay as they are when more bytes come. Assumes nothing.
use mathlib.Core.Path.{◌≡◌, refl}
use mathlib.Core.List.{List, ◌++◌}
use Prim.Native.Nat.{ℕ, zero, suc, ◌+◌, ◌-◌, ◌*◌, ◌≤◌}
use native.Mathlib.Omega.{arith}
use lib.ListN.{length, take, drop, length-drop}
use lib.Seq.{take-append-le, drop-append-le, take-add, drop-drop}
use Rattle.bank.specs.Bank.{slot_of}
use Rattle.theorem_pieces.specs.Cuts.{runs_below}

module _ (xs ys : List ℕ) where
  -- bytes within the first ones
  part_keep : (k n : ℕ) → k + n ≤ length xs → take n (drop k (xs ++ ys)) ≡ take n (drop k xs)
  part_keep k n h =
      rw (drop-append-le k xs ys (omega arith))
      (take-append-le n (drop k xs) ys (simp length-drop (omega arith)))

  -- one run, and all below a number
  slot_keep : (k : ℕ) → 6 + k * 128 + 128 ≤ length xs → slot_of (xs ++ ys) k ≡ slot_of xs k
  unfolding slot_of
  slot_keep k h = part_keep (6 + k * 128) 128 h

  pub runs_keep : (n : ℕ) → n * 128 ≤ length xs - 6 → runs_below (xs ++ ys) n ≡ runs_below xs n
  unfolding runs_below
  runs_keep zero h = refl
  runs_keep (suc n) h = rw (runs_keep n (omega arith), slot_keep n (omega arith))

  -- the bytes of the first runs together
  pub data_keep : (n : ℕ) → n ≤ length xs - 6 → take n (drop 6 (xs ++ ys)) ≡ take n (drop 6 xs)
  data_keep zero h = refl
  data_keep (suc n) h = part_keep 6 (suc n) (omega arith)

-- the bytes of one run more
pub data_next : (xs : List ℕ) (k : ℕ)
    → take (k * 128 + 128) (drop 6 xs) ≡ take (k * 128) (drop 6 xs) ++ slot_of xs k
unfolding slot_of
data_next xs k = rw (take-add (k * 128) 128 (drop 6 xs), drop-drop (k * 128) 6 xs)

-- The sum and the largest of some bytes, byte by byte, and what the checksum is. Assumes nothing.
use mathlib.Core.Path.{◌≡◌, refl, ◌∙◌, ap}
use mathlib.Core.Bool.{Bool, true, false, ◌&&◌, and-false, and-eq-true_iff}
use mathlib.Core.List.{List, [], ◌∷◌, ◌++◌}
use Prim.Native.Nat.{ℕ, ◌+◌, ◌%◌, ◌<◌, ◌≤◌, max}
use native.Mathlib.Numerals.{add-one}
use native.Mathlib.Omega.{arith}
use borrow.Author.Tests.{eqb-true, ltb-true, eq-eqb, ne_eqb, lt-ltb, le-ltb}
use lib.Dec.{eqb, ltb}
use lib.ListN.{length, get_or, take}
use lib.Seq.{take-suc}
use Rattle.dump.specs.Dump.{total, largest_of, summed, checksum_of}

total_snoc : (xs : List ℕ) (b : ℕ) → total (xs ++ (b ∷ [])) ≡ total xs + b
unfolding total
total_snoc [] b = omega arith
total_snoc (x ∷ xs) b = let e = total_snoc xs b in omega arith

largest_snoc : (xs : List ℕ) (b : ℕ) → largest_of (xs ++ (b ∷ [])) ≡ max (largest_of xs) b
unfolding largest_of
largest_snoc [] b = omega arith
largest_snoc (x ∷ xs) b = let e = largest_snoc xs b in omega arith

module _ (s : List ℕ) (i : ℕ) (h : i < length s) where
  -- one byte more
  pub total_take : total (take (i + 1) s) ≡ total (take i s) + get_or s i 0
  total_take = rw (add-one i, take-suc s i 0 h) (total_snoc (take i s) (get_or s i 0))

  pub largest_take : largest_of (take (i + 1) s) ≡ max (largest_of (take i s)) (get_or s i 0)
  largest_take = rw (add-one i, take-suc s i 0 h) (largest_snoc (take i s) (get_or s i 0))

module _ (bytes : List ℕ) (c : ℕ) where
  -- a checksum that is not below 128, one that does not complete the sum, and one that does
  pub too_high : 127 < c → summed bytes c ≡ false
  too_high h =
      ap (λ (b : Bool). eqb ((total bytes + c) % 128) 0 && b) (le-ltb c 128 (omega arith))
      ∙ and-false (eqb ((total bytes + c) % 128) 0)

  pub not_summed : (sum : ℕ) → sum ≡ total bytes % 128 → ((sum + c) % 128 ≡ 0 → ⊥) → summed bytes c ≡ false
  not_summed sum e h = rw (ne_eqb ((total bytes + c) % 128) 0 (λ z. h (omega arith)))

  pub is_summed : (sum : ℕ) → sum ≡ total bytes % 128 → c ≤ 127 → (sum + c) % 128 ≡ 0 → summed bytes c ≡ true
  is_summed sum e h z = rw (eq-eqb ((total bytes + c) % 128) 0 (omega arith)) (lt-ltb c 128 (omega arith))

-- the checksum is the one number that is so
pub checksum_summed : (bytes : List ℕ) → summed bytes (checksum_of bytes) ≡ true
checksum_summed bytes = is_summed bytes (checksum_of bytes) (total bytes % 128) refl (omega arith) (omega arith)

pub summed_checksum : (bytes : List ℕ) (c : ℕ) → summed bytes c ≡ true → c ≡ checksum_of bytes
summed_checksum bytes c e =
    let p = (and-eq-true_iff (eqb ((total bytes + c) % 128) 0) (ltb c 128)).0 e in
    omega (arith, eqb-true ((total bytes + c) % 128) 0 p.0, ltb-true c 128 p.1)

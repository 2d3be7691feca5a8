-- A number in two bytes: what is written is read back, and nothing else changes. Assumes nothing.
use mathlib.Core.Path.{◌≡◌, ◌∙◌, ap, ap₂}
use mathlib.Core.List.{List, [], ◌∷◌}
use Prim.Native.Nat.{ℕ, suc, ◌+◌, ◌*◌, ◌<◌, ◌≤◌, ◌/◌, ◌%◌}
use native.Mathlib.Numerals.{add-one}
use native.Mathlib.Omega.{arith}
use lib.ListN.{length, get_or, set, length-set}
use lib.Seq.{sets, length-sets, get_or-set_same, get_or-set_other, set-get_or}
use Rattle.lent_bytes.specs.TwoBytes.{number_at, two_bytes, with_number}

-- two bytes are their number's
pub bytes_of_number : (s : List ℕ) (at : ℕ) → get_or s at 0 < 256
    → two_bytes (number_at s at) ≡ get_or s at 0 ∷ get_or s (at + 1) 0 ∷ []
unfolding number_at two_bytes
bytes_of_number s at h =
    let low : number_at s at % 256 ≡ get_or s at 0 = omega arith in
    let high : number_at s at / 256 ≡ get_or s (at + 1) 0 = omega arith in
    ap₂ (λ (a b : ℕ). a ∷ b ∷ []) low high

-- two bytes make a number below 65,536
pub number_small : (s : List ℕ) (at : ℕ) → get_or s at 0 < 256 → get_or s (at + 1) 0 < 256 → number_at s at < 65536
unfolding number_at
number_small s at h k = omega arith

-- so equal numbers have equal bytes
pub same_bytes : (s t : List ℕ) (at : ℕ) → get_or s at 0 < 256 → get_or t at 0 < 256 → number_at s at ≡ number_at t at
    → (get_or s at 0 ≡ get_or t at 0) × (get_or s (at + 1) 0 ≡ get_or t (at + 1) 0)
unfolding number_at
same_bytes s t at h k e = (omega arith, omega arith)

module _ (s : List ℕ) (at n : ℕ) where
  -- the slice stays as long
  pub length_written : length (with_number s at n) ≡ length s
  unfolding with_number
  length_written = length-sets s at (two_bytes n)

  -- every other byte stays
  pub byte_elsewhere : (k : ℕ) → (at ≤ k → k ≤ at + 1 → ⊥) → get_or (with_number s at n) k 0 ≡ get_or s k 0
  unfolding with_number two_bytes
  byte_elsewhere k apart =
      get_or-set_other (set s at (n % 256)) (suc at) k (n / 256) 0 (λ e. apart (omega arith) (omega arith))
      ∙ get_or-set_other s at k (n % 256) 0 (λ e. apart (omega arith) (omega arith))

  -- a number read at a place apart stays
  pub number_elsewhere : (k : ℕ) → (at ≤ k + 1 → k ≤ at + 1 → ⊥) → number_at (with_number s at n) k ≡ number_at s k
  unfolding number_at
  number_elsewhere k apart =
      ap₂ (λ (a b : ℕ). a + b * 256) (byte_elsewhere k (λ l h. apart (omega arith) h))
      (byte_elsewhere (k + 1) (λ l h. apart l (omega arith)))

  module _ (fits : at + 2 ≤ length s) where
    -- what was written is read
    pub number_written : number_at (with_number s at n) at ≡ n
    unfolding number_at with_number two_bytes
    number_written =
        let low : get_or (set (set s at (n % 256)) (suc at) (n / 256)) at 0 ≡ n % 256 =
        get_or-set_other (set s at (n % 256)) (suc at) at (n / 256) 0 (λ e. omega arith)
        ∙ get_or-set_same s at (n % 256) 0 (omega arith) in
        let high : get_or (set (set s at (n % 256)) (suc at) (n / 256)) (at + 1) 0 ≡ n / 256 =
        rw (add-one at)
        (get_or-set_same (set s at (n % 256)) (suc at) (n / 256) 0 (simp length-set (omega arith))) in
        omega arith

-- writing what is read changes nothing
pub write_of_read : (s : List ℕ) (at : ℕ) → get_or s at 0 < 256 → with_number s at (number_at s at) ≡ s
unfolding with_number
write_of_read s at h =
    ap (sets s at) (bytes_of_number s at h)
    ∙ rw (set-get_or s at 0, add-one at) (set-get_or s (suc at) 0)

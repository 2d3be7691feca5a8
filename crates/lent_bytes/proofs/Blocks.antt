-- Bytes put behind those that are there already, and blocks of one length put one behind the other. Assumes nothing.
use mathlib.Core.Path.{◌≡◌, sym, ◌∙◌, ap, ap₂}
use mathlib.Core.List.{List, [], ◌++◌}
use Prim.Native.Nat.{ℕ, zero, suc, ◌+◌, ◌*◌}
use native.Mathlib.Nat.{mul-zero, mul-suc}
use native.Mathlib.Numerals.{add-one}
use native.Mathlib.Omega.{arith}
use lib.ListN.{length, drop, length-append}
use lib.Seq.{paste, take_at, drop_at, take_all, drop-drop}

-- bytes put behind b take the place of as many
pub paste_behind : (b r s : List ℕ) (at n : ℕ) → length b ≡ at → length s ≡ n
    → paste (b ++ r) at s n ≡ b ++ s ++ drop n r
paste_behind b r s at n e f =
    ap₂ ◌++◌ (ap₂ ◌++◌ (take_at b r at e) (take_all n s (omega arith)))
    (sym (drop-drop n at (b ++ r)) ∙ ap (drop n) (drop_at b r at e))

-- the blocks below n, one behind the other
unfoldable pub blocks : (ℕ → List ℕ) → ℕ → List ℕ
blocks block zero = []
blocks block (suc n) = blocks block n ++ block n

module _ (block : ℕ → List ℕ) (m : ℕ) (long : (k : ℕ) → length (block k) ≡ m) where
  pub length_blocks : (n : ℕ) → length (blocks block n) ≡ m * n
  unfolding blocks
  length_blocks zero = sym (mul-zero m)
  length_blocks (suc n) =
      length-append (blocks block n) (block n) ∙ ap₂ ◌+◌ (length_blocks n) (long n) ∙ sym (mul-suc m n)

  -- one block more, put into d behind the n before it
  pub next_block : (d o p : List ℕ) (n : ℕ) → o ≡ blocks block n ++ drop (m * n) d
      → p ≡ paste o (m * n) (block n) (length (block n)) → p ≡ blocks block (n + 1) ++ drop (m * (n + 1)) d
  unfolding blocks
  next_block d o p n e f =
      f ∙ ap₂ (λ (x : List ℕ) (k : ℕ). paste x (m * n) (block n) k) e (long n)
      ∙ paste_behind (blocks block n) (drop (m * n) d) (block n) (m * n) m (length_blocks n) (long n)
      ∙ rw (add-one n, mul-suc m n) (ap (λ (x : List ℕ). blocks block n ++ block n ++ x) (drop-drop m (m * n) d))

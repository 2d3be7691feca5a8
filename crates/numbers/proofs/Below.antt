-- A test that holds of the first numbers holds of each of them: a law for each number from one computed test. Assumes
-- nothing.
use Rattle.std.proofs.Common.{◌≡◌, ℕ, zero, suc, ◌<◌, Bool, true, false, ◌&&◌, T, eqb, sym, refl, subst, arith}
use Rattle.std.proofs.Common.{eqb-true}
use borrow.Author.Tests.{eqb-false}
use lib.Ieee.Fits.{and_l, and_r}

-- a test for every number below n
unfoldable pub all_below : (ℕ → Bool) → ℕ → Bool
all_below f zero = true
all_below f (suc n) = all_below f n && f n

pub at_each : (f : ℕ → Bool) (n : ℕ) → T (all_below f n) → (k : ℕ) → k < n → T (f k)
unfolding all_below
at_each f zero t k h = let z : ⊥ = omega arith in absurd z
at_each f (suc n) t k h = go (λ l. at_each f n (and_l (all_below f n) (f n) t) k l) (eqb k n) refl
  where
    go : (k < n → T (f k)) → (b : Bool) → eqb k n ≡ b → T (f k)
    go below true e = subst (λ (i : ℕ). T (f i)) (sym (eqb-true k n e)) (and_r (all_below f n) (f n) t)
    go below false e = let z = eqb-false k n e in below (omega arith)

-- Tests of the code, in the definitions' words. Assumes nothing.
use mathlib.Core.Path.{◌≡◌, refl, ap}
use mathlib.Core.Bool.{Bool, true, false, not}
use Prim.Native.Nat.{ℕ, zero, suc, ◌-◌, ◌^◌, ◌<◌}
use native.Mathlib.Omega.{arith}
use borrow.Author.Tests.{eqb-true, eqb-false, eq-eqb, ne_eqb}
use lib.Dec.{eqb}
use lib.IntN.{ℤ, pos, negsuc}
use lib.Signed.{mag}
use mir.Syntax.{w32}
use mir.Val.{of_z}
use Rattle.lfo_inner.specs.declared.Waveform.TheVariants.{Triangle}
use Rattle.lfo_inner.specs.Lfo.{waveform_of, whole_changed}

flipped : (a b : ℕ) → a < 2 ^ 31 → b < 2 ^ 31 → eqb (2 ^ 32 - suc a) (2 ^ 32 - suc b) ≡ eqb a b
flipped a b h k = go (eqb a b) refl
  where
    go : (t : Bool) → eqb a b ≡ t → eqb (2 ^ 32 - suc a) (2 ^ 32 - suc b) ≡ t
    go true e = let z = eqb-true a b e in eq-eqb (2 ^ 32 - suc a) (2 ^ 32 - suc b) (omega arith)
    go false e = let z = eqb-false a b e in ne_eqb (2 ^ 32 - suc a) (2 ^ 32 - suc b) (λ q. z (omega arith))

-- two whole parts differ where their bits do
pub bits_differ : (a b : ℤ) → mag a < 2 ^ 31 → mag b < 2 ^ 31 → not (eqb (of_z w32 a) (of_z w32 b)) ≡ whole_changed a b
unfolding whole_changed
bits_differ (pos a) (pos b) h k = refl
bits_differ (pos a) (negsuc b) h k = ap not (ne_eqb a (2 ^ 32 - suc b) (λ q. omega arith))
bits_differ (negsuc a) (pos b) h k = ap not (ne_eqb (2 ^ 32 - suc a) b (λ q. omega arith))
bits_differ (negsuc a) (negsuc b) h k = ap not (flipped a b h k)

-- a number that is no wave's
pub no_wave : (n : ℕ) → (n ≡ 1 → ⊥) → (n ≡ 2 → ⊥) → (n ≡ 3 → ⊥) → (n ≡ 4 → ⊥) → (n ≡ 5 → ⊥) → Triangle ≡ waveform_of n
unfolding waveform_of
no_wave zero a b c d e = refl
no_wave (suc zero) a b c d e = absurd (a refl)
no_wave (suc (suc zero)) a b c d e = absurd (b refl)
no_wave (suc (suc (suc zero))) a b c d e = absurd (c refl)
no_wave (suc (suc (suc (suc zero)))) a b c d e = absurd (d refl)
no_wave (suc (suc (suc (suc (suc zero))))) a b c d e = absurd (e refl)
no_wave (suc (suc (suc (suc (suc (suc n)))))) a b c d e = refl

-- The line by pairs is the Rust's line between two entries: over the pairs of a table it reads the first entry and the
-- difference of the two. Assumes nothing.
use mathlib.Core.Path.{◌≡◌, refl}
use mathlib.Core.List.{List, [], ◌∷◌}
use Prim.Native.Nat.{ℕ, zero, suc, ◌+◌, ◌*◌, ◌/◌, ◌^◌, ◌<◌, ◌≤◌}
use native.Mathlib.Nat.{le_of_suc-le-suc, not-suc-le-zero}
use native.Mathlib.Omega.{arith}
use lib.ListN.{length, get_or}
use lib.Ieee.{Float, nan}
use Rattle.numbers.specs.F32.{◌⊖◌}
use Rattle.sine.specs.Table.{lut_sine}
use Rattle.sine.specs.Pairs.{pairs_of, sine_pairs}
use Rattle.sine.specs.Sine.{entry_line, phase_line}

-- at twice an index stands the entry
pub at_twice : (n : ℕ) (lut : List Float) (k : ℕ) → k < n → n < length lut
    → get_or (pairs_of n lut) (2 * k) nan ≡ get_or lut k nan
unfolding pairs_of
at_twice zero lut k h l = absurd (not-suc-le-zero h)
at_twice (suc n) [] k h l = absurd (not-suc-le-zero l)
at_twice (suc n) (a ∷ []) k h l = absurd (not-suc-le-zero (le_of_suc-le-suc l))
at_twice (suc n) (a ∷ b ∷ lut) zero h l = refl
at_twice (suc n) (a ∷ b ∷ lut) (suc k) h l =
    let e : 2 * suc k ≡ suc (suc (2 * k)) = omega arith in
    rw e (at_twice n (b ∷ lut) k (le_of_suc-le-suc h) (le_of_suc-le-suc l))

-- and after it the way to the next
pub after_twice : (n : ℕ) (lut : List Float) (k : ℕ) → k < n → n < length lut
    → get_or (pairs_of n lut) (2 * k + 1) nan ≡ get_or lut (k + 1) nan ⊖ get_or lut k nan
unfolding pairs_of
after_twice zero lut k h l = absurd (not-suc-le-zero h)
after_twice (suc n) [] k h l = absurd (not-suc-le-zero l)
after_twice (suc n) (a ∷ []) k h l = absurd (not-suc-le-zero (le_of_suc-le-suc l))
after_twice (suc n) (a ∷ b ∷ lut) zero h l = refl
after_twice (suc n) (a ∷ b ∷ lut) (suc k) h l =
    let e : 2 * suc k + 1 ≡ suc (suc (2 * k + 1)) = omega arith in
    let f : suc k + 1 ≡ suc (k + 1) = omega arith in
    rw (e, f) (after_twice n (b ∷ lut) k (le_of_suc-le-suc h) (le_of_suc-le-suc l))

-- the line by the pairs of one turn is the table's own
pub pairs_line : (lut : List Float) (p : ℕ) → p < 2 ^ 32 → 513 ≤ length lut
    → phase_line (pairs_of 512 lut) p ≡ entry_line lut p
unfolding phase_line entry_line
pairs_line lut p h l =
    let k : p / 2 ^ 23 < 512 = omega arith in
    simp (at_twice 512 lut (p / 2 ^ 23) k l, after_twice 512 lut (p / 2 ^ 23) k l)

pub sine_line : (p : ℕ) → p < 2 ^ 32 → phase_line sine_pairs p ≡ entry_line lut_sine p
unfolding sine_pairs lut_sine
sine_line p h = pairs_line lut_sine p h (omega arith)

-- Every entry of the sine table is finite and between -1 and 1, and so is every way to the next: one test over the
-- whole table, which antt computes. It also says that an entry and its way are at most 1 together where they have one
-- sign, from which the lines between entries are bounded (Lines). Assumes nothing.
use mathlib.Core.Path.{◌≡◌, sym, subst}
use mathlib.Core.Bool.{Bool, true, false, ◌&&◌, ◌||◌}
use mathlib.Core.List.{List, [], ◌∷◌}
use Prim.Native.Nat.{ℕ, zero, suc, ◌+◌, ◌*◌, ◌/◌, ◌%◌, ◌<◌}
use native.Mathlib.Nat.{le_of_suc-le-suc, not-suc-le-zero}
use native.Mathlib.Omega.{arith}
use lib.Dec.{T, leb, leb→le, ltb, lt→ltb}
use lib.IntN.{pos}
use lib.ListN.{length, get_or}
use lib.Ieee.{Float, nan, inf, fin, binary32, up, down, unlike, le, lt, eq, sub, add, sum, neg, round}
use lib.Ieee.Fits.{down_pos, and_l, and_r, and_i}
use Rattle.numbers.specs.F32.{◌⊖◌, decimal, minus_decimal}
use Rattle.numbers.proofs.Casts.{or_i, le_or, ge_or}
use Rattle.numbers.proofs.Sizes.{Held, held}
use Rattle.sine.specs.Table.{lut_sine}
use Rattle.sine.specs.Pairs.{pairs_of, sine_pairs}
use Rattle.sine.specs.Bound.{within}
use Rattle.sine.proofs.Paired.{at_twice, after_twice}

-- ---- the test

-- finite, and of a size of at most 1
unfoldable pub small : Float → Bool
small nan = false
small (inf s) = false
small (fin s m e) = leb (m * up e) (down e)

-- n / d and a number with no sign are at most 1 together
unfoldable pub together : ℕ → ℕ → Float → Bool
together n d nan = false
together n d (inf s) = false
together n d (fin true j i) = false
together n d (fin false j i) = leb (n * down i + j * up i * d) (d * down i)

-- an entry and its way, where they have one sign; the way's size is rounded once more, which bounds every product of
-- the way with a number from 0 to 1
unfoldable pub room : Float → Float → Bool
unfolding together
room nan w = false
room (inf s) w = false
room (fin s m e) nan = false
room (fin s m e) (inf t) = false
room (fin s m e) (fin t n d) =
    unlike s t || together (m * up e) (down e) (round binary32 false (n * up d) (down d))

unfoldable pub stays : Float → Float → Bool
unfolding small room
stays a w = small a && (small w && room a w)

-- each entry of a table and its way to the next
unfoldable all_stay : List Float → Bool
unfolding small stays
all_stay [] = true
all_stay (a ∷ []) = small a
all_stay (a ∷ b ∷ xs) = stays a (b ⊖ a) && all_stay (b ∷ xs)

table_stays : T (all_stay lut_sine)
unfolding lut_sine all_stay stays small room together decimal minus_decimal sub add sum neg round
table_stays = tt

-- ---- what it says of each entry, and of each way

at_entry : (xs : List Float) → T (all_stay xs) → (k : ℕ) → k < length xs → T (small (get_or xs k nan))
unfolding all_stay stays
at_entry [] t k h = absurd (not-suc-le-zero h)
at_entry (a ∷ []) t zero h = t
at_entry (a ∷ []) t (suc k) h = absurd (not-suc-le-zero (le_of_suc-le-suc h))
at_entry (a ∷ b ∷ xs) t zero h =
    and_l (small a) (small (b ⊖ a) && room a (b ⊖ a)) (and_l (stays a (b ⊖ a)) (all_stay (b ∷ xs)) t)
at_entry (a ∷ b ∷ xs) t (suc k) h =
    at_entry (b ∷ xs) (and_r (stays a (b ⊖ a)) (all_stay (b ∷ xs)) t) k (le_of_suc-le-suc h)

at_way : (xs : List Float) → T (all_stay xs) → (k : ℕ) → k + 1 < length xs
    → T (stays (get_or xs k nan) (get_or xs (k + 1) nan ⊖ get_or xs k nan))
unfolding all_stay
at_way [] t k h = absurd (not-suc-le-zero h)
at_way (a ∷ []) t zero h = absurd (not-suc-le-zero (le_of_suc-le-suc h))
at_way (a ∷ []) t (suc k) h = let z : ⊥ = omega arith in absurd z
at_way (a ∷ b ∷ xs) t zero h = and_l (stays a (b ⊖ a)) (all_stay (b ∷ xs)) t
at_way (a ∷ b ∷ xs) t (suc k) h =
    let e : suc k + 1 ≡ suc (k + 1) = omega arith in
    rw e (at_way (b ∷ xs) (and_r (stays a (b ⊖ a)) (all_stay (b ∷ xs)) t) k (omega arith))

pub way_stays : (k : ℕ) → k < 640
    → T (stays (get_or lut_sine k nan) (get_or lut_sine (k + 1) nan ⊖ get_or lut_sine k nan))
unfolding lut_sine
way_stays k h = at_way lut_sine table_stays k (omega arith)

-- ---- as the bound

small_held : (x : Float) → T (small x) → Held 1 1 x
unfolding small
small_held nan t = absurd t
small_held (inf s) t = absurd t
small_held (fin s m e) t = held s m e (let z = leb→le (m * up e) (down e) t in omega arith)

pub held_within : (x : Float) → Held 1 1 x → T (within x)
unfolding within le lt eq decimal minus_decimal
held_within _ (held false m e h) =
    let p = down_pos e in
    and_i (le (fin true 1 (pos 0)) (fin false m e)) (le (fin false m e) (fin false 1 (pos 0)))
    (or_i (ltb 0 (1 * 1 * down e + m * up e * 1)) _ (lt→ltb 0 (1 * 1 * down e + m * up e * 1) (omega arith)))
    (le_or (m * up e * 1) (1 * 1 * down e) (omega arith))
held_within _ (held true m e h) =
    let p = down_pos e in
    and_i (le (fin true 1 (pos 0)) (fin true m e)) (le (fin true m e) (fin false 1 (pos 0)))
    (ge_or (1 * 1 * down e) (m * up e * 1) (omega arith))
    (or_i (ltb 0 (m * up e * 1 + 1 * 1 * down e)) _ (lt→ltb 0 (m * up e * 1 + 1 * 1 * down e) (omega arith)))

pub table_within : (k : ℕ) → k < 641 → T (within (get_or lut_sine k nan))
unfolding lut_sine
table_within k h = held_within _ (small_held _ (at_entry lut_sine table_stays k (omega arith)))

pub way_within : (k : ℕ) → k < 640 → T (within (get_or lut_sine (k + 1) nan ⊖ get_or lut_sine k nan))
unfolding stays
way_within k h =
    let a = get_or lut_sine k nan in
    let w = get_or lut_sine (k + 1) nan ⊖ a in
    held_within w (small_held w (and_l (small w) (room a w) (and_r (small a) (small w && room a w) (way_stays k h))))

-- an entry of the pairs is an entry of the table, or a way
either : (P : Float → Type 0) (lut : List Float) → 512 < length lut → (i : ℕ) → i < 1024 → P (get_or lut (i / 2) nan)
    → P (get_or lut (i / 2 + 1) nan ⊖ get_or lut (i / 2) nan) → P (get_or (pairs_of 512 lut) i nan)
either P lut l i h a w = go (i % 2) (omega arith) (omega arith)
  where
    k : ℕ
    k = i / 2

    go : (r : ℕ) → r < 2 → i ≡ 2 * k + r → P (get_or (pairs_of 512 lut) i nan)
    go zero p e =
        let f : 2 * k ≡ i = omega arith in
        subst (λ (n : ℕ). P (get_or (pairs_of 512 lut) n nan)) f (subst P (sym (at_twice 512 lut k (omega arith) l)) a)
    go (suc zero) p e =
        subst (λ (n : ℕ). P (get_or (pairs_of 512 lut) n nan)) (sym e)
        (subst P (sym (after_twice 512 lut k (omega arith) l)) w)
    go (suc (suc r)) p e = let z : ⊥ = omega arith in absurd z

long : 512 < length lut_sine
unfolding lut_sine
long = omega arith

pub pairs_within : (i : ℕ) → i < 1024 → T (within (get_or sine_pairs i nan))
unfolding sine_pairs
pairs_within i h =
    either (λ (x : Float). T (within x)) lut_sine long i h (table_within (i / 2) (omega arith))
    (way_within (i / 2) (omega arith))

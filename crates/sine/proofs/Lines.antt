-- The straight lines between the sine table's entries stay from -1 to 1, by the test over the table: an entry and a
-- part of its way are at most 1, each by itself, and together where they have one sign. Assumes nothing.
use mathlib.Core.Path.{◌≡◌, refl, sym, ◌∙◌, ap, subst}
use mathlib.Core.Bool.{Bool, true, false, ◌&&◌, ◌||◌}
use mathlib.Core.List.{List}
use Prim.Native.Nat.{ℕ, ◌+◌, ◌*◌, ◌/◌, ◌^◌, ◌≤◌, ◌<◌}
use native.Mathlib.Nat.{mul-zero, mul_comm, mul_assoc, mul_right_comm, add-mul, mul-le-mul, mul-le-mul_left}
use native.Mathlib.Nat.{mul-le-mul_right, le_of_mul-le-mul_right}
use native.Mathlib.Omega.{arith}
use lib.Dec.{T, leb→le}
use lib.IntN.{ℤ}
use lib.ListN.{get_or}
use lib.Ieee.{Float, nan, inf, fin, binary32, up, down, unlike, le, neg, add, mul, round}
use lib.Ieee.Bits.{is_true}
use lib.Ieee.Fits.{down_pos, and_l, and_r}
use lib.Ieee.Order.{round_mono}
use Rattle.numbers.specs.F32.{◌⊕◌, ◌⊖◌, ◌⊗◌}
use Rattle.numbers.specs.Words.{shifted32}
use Rattle.numbers.proofs.Views.{no, on}
use Rattle.numbers.proofs.Rounded.{Upto, upto, upto_at, round_plus, round_neg}
use Rattle.numbers.proofs.Sizes.{Held, held, upto_one, rounded_none, sum_bound, Share, share, no_share, word_share}
use Rattle.sine.specs.Table.{lut_sine}
use Rattle.sine.specs.Pairs.{sine_pairs}
use Rattle.sine.specs.Sine.{entry_line, phase_line}
use Rattle.sine.specs.Bound.{within}
use Rattle.sine.proofs.Bounded.{small, together, room, stays, way_stays, held_within}
use Rattle.sine.proofs.Paired.{sine_line}

-- ---- a part of a way

-- with the sign t and at most J / I, or nothing
data Along (t : Bool) (J I : ℕ) : Float → Type 0 where
  along : (m : ℕ) (e : ℤ) → m * up e * I ≤ J * down e → Along t J I (fin t m e)
  still : (s : Bool) (m : ℕ) (e : ℤ) → m * up e ≡ 0 → Along t J I (fin s m e)

along_plus : (J I : ℕ) (x : Float) → Upto J I x → Along false J I x
along_plus J I _ (upto m e h) = along m e h

along_minus : (J I : ℕ) (x : Float) → Upto J I x → Along true J I (neg x)
unfolding neg
along_minus J I _ (upto m e h) = along m e h

along_signed : (t : Bool) (J I n d : ℕ) → Upto J I (round binary32 false n d) → Along t J I (round binary32 t n d)
along_signed false J I n d u = along_plus J I (round binary32 false n d) u
along_signed true J I n d u = rw (round_neg n d) (along_minus J I (round binary32 false n d) u)

still_held : (t : Bool) (J I : ℕ) (x : Float) → Held 0 1 x → Along t J I x
still_held t J I _ (held s m e h) = still s m e (omega arith)

-- W / D times K / G, at most 1, is at most W / D
shrunk : (W D K G : ℕ) → K ≤ G → W * K * D ≤ W * (D * G)
shrunk W D K G h =
    let a : W * D * K ≤ W * D * G = mul-le-mul_left (W * D) h in
    let b : W * K * D ≡ W * D * K = mul_right_comm W K D in
    let c : W * (D * G) ≡ W * D * G = sym (mul_assoc W D G) in
    omega (arith, a, b, c)

part_along : (t : Bool) (n : ℕ) (d : ℤ) (k : ℕ) (g : ℤ) (j : ℕ) (i : ℤ) → k * up g ≤ down g
    → round binary32 false (n * up d) (down d) ≡ fin false j i
    → Along t (j * up i) (down i) (round binary32 t (n * up d * (k * up g)) (down d * down g))
part_along t n d k g j i h v =
    let N = n * up d * (k * up g) in
    let D = down d * down g in
    let p : 0 < D = mul-le-mul (down_pos d) (down_pos g) in
    let l : T (le (round binary32 false N D) (round binary32 false (n * up d) (down d))) =
    round_mono binary32 N D (n * up d) (down d) p (down_pos d) (shrunk (n * up d) (down d) (k * up g) (down g) h) in
    let u = subst (λ (x : Float). T (le (round binary32 false N D) x)) v l in
    along_signed t (j * up i) (down i) N D (upto_at j i (round binary32 false N D) (round_plus N D) (is_true _ u))

way_part : (t : Bool) (n : ℕ) (d : ℤ) (f : Float) → Share f → (j : ℕ) (i : ℤ)
    → round binary32 false (n * up d) (down d) ≡ fin false j i → Along t (j * up i) (down i) (fin t n d ⊗ f)
unfolding mul
way_part false n d _ (share k g h) j i v = part_along false n d k g j i h v
way_part true n d _ (share k g h) j i v = part_along true n d k g j i h v
way_part t n d _ (no_share g) j i v =
    let z : n * up d * (0 * up g) ≡ 0 =
    (let y : 0 * up g ≡ 0 = omega arith in ap (λ (x : ℕ). n * up d * x) y ∙ mul-zero (n * up d)) in
    still_held t (j * up i) (down i) _
    (rounded_none _ (n * up d * (0 * up g)) (down d * down g) z (mul-le-mul (down_pos d) (down_pos g)))

-- ---- the line

-- M / E and P / Q, from M / E + J / I ≤ 1 and P / Q ≤ J / I
both_room : (M E J I P Q : ℕ) → 0 < I → M * I + J * E ≤ E * I → P * I ≤ J * Q → M * Q + P * E ≤ E * Q
both_room M E J I P Q p h k =
    let a : (M * I + J * E) * Q ≤ E * I * Q = mul-le-mul_right Q h in
    let b : P * I * E ≤ J * Q * E = mul-le-mul_right E k in
    let c : (M * I + J * E) * Q ≡ M * I * Q + J * E * Q = add-mul (M * I) (J * E) Q in
    let d : M * I * Q ≡ M * Q * I = mul_right_comm M I Q in
    let e : J * Q * E ≡ J * E * Q = mul_right_comm J Q E in
    let f : P * I * E ≡ P * E * I = mul_right_comm P I E in
    let g : E * I * Q ≡ E * Q * I = mul_right_comm E I Q in
    let i : (M * Q + P * E) * I ≡ M * Q * I + P * E * I = add-mul (M * Q) (P * E) I in
    le_of_mul-le-mul_right (omega (arith, a, b, c, d, e, f, g, i)) p

own_room : (J I P Q : ℕ) → 0 < I → J ≤ I → P * I ≤ J * Q → P ≤ Q
own_room J I P Q p h k =
    let a : J * Q ≤ I * Q = mul-le-mul_right Q h in
    let b : I * Q ≡ Q * I = mul_comm I Q in
    le_of_mul-le-mul_right (omega (arith, a, b, k)) p

added_small : (s : Bool) (m : ℕ) (e : ℤ) (t : Bool) (J I : ℕ) (q : Float) → Along t J I q → 0 < I → m * up e ≤ down e
    → J ≤ I → (s ≡ t → m * up e * I + J * down e ≤ down e * I) → Held 1 1 (fin s m e ⊕ q)
unfolding add
added_small s m e t J I _ (along n d h) p a b c =
    let x : m * up e * down d ≤ down e * down d = mul-le-mul_right (down d) a in
    let y : n * up d * down e ≤ down d * down e = mul-le-mul_right (down e) (own_room J I (n * up d) (down d) p b h) in
    let z : down d * down e ≡ down e * down d = mul_comm (down d) (down e) in
    sum_bound s (m * up e * down d) t (n * up d * down e) (down e * down d) (mul-le-mul (down_pos e) (down_pos d)) x
    (omega (arith, y, z)) (λ r. both_room (m * up e) (down e) J I (n * up d) (down d) p (c r) h)
added_small s m e t J I _ (still u n d h) p a b c =
    let x : m * up e * down d ≤ down e * down d = mul-le-mul_right (down d) a in
    let y : n * up d * down e ≡ 0 = ap (λ (k : ℕ). k * down e) h ∙ zeros (down e) in
    sum_bound s (m * up e * down d) u (n * up d * down e) (down e * down d) (mul-le-mul (down_pos e) (down_pos d)) x
    (omega (arith, y)) (λ r. omega (arith, x, y))
  where
    zeros : (k : ℕ) → 0 * k ≡ 0
    zeros k = omega arith

-- where the signs are the same the test tells; where they are not, nothing is asked
or_room : (s t : Bool) (n d : ℕ) (v : Float) → T (unlike s t || together n d v) → s ≡ t → T (together n d v)
or_room true true n d v h e = h
or_room false false n d v h e = h
or_room true false n d v h e = on e
or_room false true n d v h e = no e

-- v is the way's size, rounded
by_size : (u : Bool) (m : ℕ) (k : ℤ) (t : Bool) (n : ℕ) (d : ℤ) (f v : Float) → Share f → Upto 1 1 v
    → round binary32 false (n * up d) (down d) ≡ v → m * up k ≤ down k
    → (u ≡ t → T (together (m * up k) (down k) v)) → Held 1 1 (fin u m k ⊕ fin t n d ⊗ f)
unfolding together
by_size u m k t n d f _ s (upto j i l) e a c =
    added_small u m k t (j * up i) (down i) (fin t n d ⊗ f) (way_part t n d f s j i e) (down_pos i) a (omega arith)
    (λ r. leb→le (m * up k * down i + j * up i * down k) (down k * down i) (c r))

line_small : (a w f : Float) → Share f → T (small a) → T (small w) → T (room a w) → Held 1 1 (a ⊕ w ⊗ f)
unfolding small room
line_small nan w f s p q r = absurd p
line_small (inf u) w f s p q r = absurd p
line_small (fin u m k) nan f s p q r = absurd q
line_small (fin u m k) (inf t) f s p q r = absurd q
line_small (fin u m k) (fin t n d) f s p q r =
    let v = round binary32 false (n * up d) (down d) in
    by_size u m k t n d f v s (upto_one (n * up d) (down d) (down_pos d) (leb→le (n * up d) (down d) q)) refl
    (leb→le (m * up k) (down k) p) (or_room u t (m * up k) (down k) v r)

line_stays : (a w f : Float) → Share f → T (stays a w) → Held 1 1 (a ⊕ w ⊗ f)
unfolding stays
line_stays a w f s t =
    let r = and_r (small a) (small w && room a w) t in
    line_small a w f s (and_l (small a) (small w && room a w) t) (and_l (small w) (room a w) r)
    (and_r (small w) (room a w) r)

pub line_held : (k : ℕ) (f : Float) → k < 640 → Share f
    → Held 1 1 (get_or lut_sine k nan ⊕ (get_or lut_sine (k + 1) nan ⊖ get_or lut_sine k nan) ⊗ f)
line_held k f h s = line_stays (get_or lut_sine k nan) (get_or lut_sine (k + 1) nan ⊖ get_or lut_sine k nan) f s (way_stays k h)

-- ---- at a phase of 32 bits

entry_line_within : (p : ℕ) → p < 2 ^ 32 → T (within (entry_line lut_sine p))
unfolding entry_line
entry_line_within p h =
    held_within _ (line_held (p / 2 ^ 23) _ (omega arith) (word_share (shifted32 p 9) (omega arith)))

-- as a lookup by pairs promises it, with the pairs lent
pub line_within : (pairs : List Float) (p : ℕ) {r : Float} → p < 2 ^ 32 → r ≡ phase_line pairs p → pairs ≡ sine_pairs
    → T (within r)
line_within pairs p h q e =
    subst (λ (x : Float). T (within x)) (sym (q ∙ ap (λ (l : List Float). phase_line l p) e ∙ sine_line p h))
    (entry_line_within p h)

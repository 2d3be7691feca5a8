-- The loops of the ratio: each takes one turn at most, and what they hand on is from -120 to 120. Assumes nothing.
use mathlib.Core.Path.{◌≡◌, refl, sym, subst}
use mathlib.Core.Bool.{Bool, true, false, ◌&&◌, cond}
use mathlib.Core.List.{List}
use Prim.Native.Nat.{ℕ, ◌+◌, ◌-◌, ◌*◌, ◌^◌, ◌<◌}
use native.Mathlib.Nat.{mul-le-mul}
use native.Mathlib.Omega.{arith}
use borrow.Author.Tests.{ltb-true, ltb-false, lt-ltb, le-ltb}
use lib.Dec.{T, ltb, eqb, lt→ltb, eqb→eq}
use lib.IntN.{ℤ, pos}
use lib.Pow.{pow_pos}
use lib.Ieee.Bits.{is_true}
use lib.Ieee.Order.{round_mono}
use lib.Ieee.Fits.{down_pos, and_i, and_l, and_r}
use lib.Ieee.{Float, nan, inf, fin, binary32, up, down, lt, le, eq, neg, add, sub, mul, div, sum, round}
use Rattle.numbers.proofs.Views.{no, or_le, or_ge}
use Rattle.numbers.proofs.Casts.{or_i, le_or, ge_or}
use Rattle.numbers.proofs.Rounded.{Plus, p_inf, p_fin, round_plus, round_neg, Upto, upto, upto_at}
use Rattle.numbers.specs.F32.{◌⊕◌, ◌⊖◌, ◌⊗◌, ◌⊘◌, decimal, minus_decimal}
use Rattle.units.specs.declared.Shifted.{Shifted}
use Rattle.units.specs.Ratio.{within, lowered, raised, ratio_in, ratio_of}
use Rattle.units.specs.Loops.{above, down120, times1024, below, up120, over1024, EndsOnce, Looped}
use Rattle.units.proofs.Bounds.{Sized, sized, is_sized}
use Rattle.units.proofs.OneTurn.{ends_once}

-- ---- 120 less, 120 more, or neither, is from -120 to 120

scaled : (M j : ℕ) (e : ℤ) → 0 < M → 0 < M * 2 ^ j * down e
scaled M j e p = mul-le-mul (mul-le-mul p (pow_pos j)) (down_pos e)

minus_le : (M j : ℕ) (y : Float) → 0 < M → Plus y → T (le (fin true M (pos j)) y)
unfolding le lt eq
minus_le M j _ p p_inf = tt
minus_le M j _ p (p_fin m e) =
    or_i (ltb 0 (M * 2 ^ j * down e + m * up e * 1))
    (eqb (M * 2 ^ j * down e) (m * up e * 1) && eqb (M * 2 ^ j * down e) 0)
    (lt→ltb 0 (M * 2 ^ j * down e + m * up e * 1) (let q = scaled M j e p in omega arith))

neg_le : (M j : ℕ) (y : Float) → 0 < M → Plus y → T (le (neg y) (fin false M (pos j)))
unfolding le lt eq neg
neg_le M j _ p p_inf = tt
neg_le M j _ p (p_fin m e) =
    or_i (ltb 0 (m * up e * 1 + M * 2 ^ j * down e)) (eqb (m * up e * 1) (M * 2 ^ j * down e) && eqb (m * up e * 1) 0)
    (lt→ltb 0 (m * up e * 1 + M * 2 ^ j * down e) (let q = scaled M j e p in omega arith))

minus_le_neg : (M j : ℕ) (y : Float) → Upto (M * 2 ^ j) 1 y → T (le (fin true M (pos j)) (neg y))
unfolding le lt eq neg
minus_le_neg M j _ (upto m e h) = ge_or (M * 2 ^ j * down e) (m * up e * 1) h

less : (x : Float) → lt (fin false 15 (pos 3)) x ≡ true → le x (fin false 15 (pos 4)) ≡ true
    → T (le (fin true 15 (pos 3)) (sub binary32 x (fin false 15 (pos 3))))
    × T (le (sub binary32 x (fin false 15 (pos 3))) (fin false 15 (pos 3)))
unfolding lt le eq sub add neg sum round
less nan g h = no g
less (inf true) g h = no g
less (inf false) g h = no h
less (fin true m e) g h = no g
less (fin false m e) g h =
    let a = ltb-true (120 * down e) (m * up e * 1) g in
    let b = or_le (m * up e * 1) (240 * down e) true h in
    let p = down_pos e in
    rw (le-ltb (m * up e * 1) (120 * down e) (omega arith)) (
      minus_le 15 3 (round binary32 false (m * up e * 1 - 120 * down e) (down e * 1)) (omega arith)
          (round_plus (m * up e * 1 - 120 * down e) (down e * 1)),
      round_mono binary32 (m * up e * 1 - 120 * down e) (down e * 1) 120 1 (omega arith) (omega arith) (omega arith),
    )

more : (x : Float) → lt x (fin true 15 (pos 3)) ≡ true → le (fin true 15 (pos 4)) x ≡ true
    → T (le (fin true 15 (pos 3)) (add binary32 x (fin false 15 (pos 3))))
    × T (le (add binary32 x (fin false 15 (pos 3))) (fin false 15 (pos 3)))
unfolding lt le eq add neg sum round
more nan g h = no g
more (inf true) g h = no h
more (inf false) g h = no g
more (fin false m e) g h = no g
more (fin true m e) g h =
    let a = ltb-true (120 * down e) (m * up e * 1) g in
    let b = or_ge (240 * down e) (m * up e * 1) true h in
    let p = down_pos e in
    let n = m * up e * 1 - 120 * down e in
    let d = down e * 1 in
    let y = round binary32 false n d in
    rw (le-ltb (m * up e * 1) (120 * down e) (omega arith), lt-ltb (120 * down e) (m * up e * 1) a, round_neg n d) (
      minus_le_neg 15 3 y (upto_at 15 (pos 3) y (round_plus n d) (is_true _ (round_mono binary32 n d 120 1 (omega arith) (omega arith) (omega arith)))),
      neg_le 15 3 y (omega arith) (round_plus n d),
    )

between : (x : Float) → le (fin true 15 (pos 4)) x ≡ true → le x (fin false 15 (pos 4)) ≡ true
    → lt (fin false 15 (pos 3)) x ≡ false → lt x (fin true 15 (pos 3)) ≡ false
    → T (le (fin true 15 (pos 3)) x) × T (le x (fin false 15 (pos 3)))
unfolding lt le eq neg
between nan a b g h = no a
between (inf true) a b g h = no a
between (inf false) a b g h = no b
between (fin false m e) a b g h =
    (minus_le 15 3 (fin false m e) (omega arith) (p_fin m e), le_or (m * up e * 1) (120 * down e) (ltb-false (120 * down e) (m * up e * 1) g))
between (fin true m e) a b g h =
    (ge_or (120 * down e) (m * up e * 1) (ltb-false (120 * down e) (m * up e * 1) h), neg_le 15 3 (fin false m e) (omega arith) (p_fin m e))

-- ---- at most, and not above

both_zero : (a b : ℕ) → (eqb a b && eqb a 0) ≡ true → ltb 0 (b + a) ≡ false
both_zero a b h =
    let t = subst T (sym h) tt in
    let p = eqb→eq a b (and_l (eqb a b) (eqb a 0) t) in
    let q = eqb→eq a 0 (and_r (eqb a b) (eqb a 0) t) in
    le-ltb 0 (b + a) (omega arith)

-- at most a number is not above it
le_not_lt : (x y : Float) → le x y ≡ true → lt y x ≡ false
unfolding le lt eq
le_not_lt nan y h = no h
le_not_lt (inf s) nan h = no h
le_not_lt (inf true) (inf true) h = refl
le_not_lt (inf true) (inf false) h = refl
le_not_lt (inf false) (inf true) h = no h
le_not_lt (inf false) (inf false) h = refl
le_not_lt (inf true) (fin t n d) h = refl
le_not_lt (inf false) (fin t n d) h = no h
le_not_lt (fin s m e) nan h = no h
le_not_lt (fin s m e) (inf true) h = no h
le_not_lt (fin s m e) (inf false) h = refl
le_not_lt (fin false m e) (fin false n d) h = le-ltb _ _ (or_le (m * up e * down d) (n * up d * down e) true h)
le_not_lt (fin false m e) (fin true n d) h = both_zero (m * up e * down d) (n * up d * down e) h
le_not_lt (fin true m e) (fin false n d) h = refl
le_not_lt (fin true m e) (fin true n d) h = le-ltb _ _ (or_ge (m * up e * down d) (n * up d * down e) true h)

-- ---- the same of `within`

at_least : (n : ℕ) (x : Float) → T (within n x) → le (minus_decimal n 0) x ≡ true
unfolding within
at_least n x h = is_true _ (and_l (le (minus_decimal n 0) x) (le x (decimal n 0)) h)

at_most : (n : ℕ) (x : Float) → T (within n x) → le x (decimal n 0) ≡ true
unfolding within
at_most n x h = is_true _ (and_r (le (minus_decimal n 0) x) (le x (decimal n 0)) h)

pub is_within : (n : ℕ) (x : Float) → T (le (minus_decimal n 0) x) → T (le x (decimal n 0)) → T (within n x)
unfolding within
is_within n x l h = and_i (le (minus_decimal n 0) x) (le x (decimal n 0)) l h

less_within : (x : Float) → T (within 240 x) → lt (decimal 120 0) x ≡ true → T (within 120 (x ⊖ decimal 120 0))
unfolding decimal minus_decimal
less_within x h g = let p = less x g (at_most 240 x h) in is_within 120 (x ⊖ decimal 120 0) p.0 p.1

more_within : (x : Float) → T (within 240 x) → lt x (minus_decimal 120 0) ≡ true → T (within 120 (x ⊕ decimal 120 0))
unfolding decimal minus_decimal
more_within x h g = let p = more x g (at_least 240 x h) in is_within 120 (x ⊕ decimal 120 0) p.0 p.1

between_within : (x : Float) → T (within 240 x) → lt (decimal 120 0) x ≡ false → lt x (minus_decimal 120 0) ≡ false
    → T (within 120 x)
unfolding decimal minus_decimal
between_within x h g l = let p = between x (at_least 240 x h) (at_most 240 x h) g l in is_within 120 x p.0 p.1

-- neither loop takes a second turn
pub lowered_once : (x : Float) → T (within 240 x) → lt (decimal 120 0) x ≡ true
    → lt (decimal 120 0) (x ⊖ decimal 120 0) ≡ false
lowered_once x h g = le_not_lt _ _ (at_most 120 _ (less_within x h g))

pub raised_once : (x : Float) → T (within 240 x) → lt x (minus_decimal 120 0) ≡ true
    → lt (x ⊕ decimal 120 0) (minus_decimal 120 0) ≡ false
raised_once x h g = le_not_lt _ _ (at_least 120 _ (more_within x h g))

-- what was lowered is not raised
pub not_raised : (x : Float) → T (within 240 x) → lt (decimal 120 0) x ≡ true
    → lt (x ⊖ decimal 120 0) (minus_decimal 120 0) ≡ false
not_raised x h g = le_not_lt _ _ (at_least 120 _ (less_within x h g))

-- ---- what the turns hand on

wide : (x : Float) → Sized 120 x → T (le (fin true 15 (pos 4)) x) × T (le x (fin false 15 (pos 4)))
unfolding le lt eq neg
wide _ (sized false m e h) =
    (minus_le 15 4 (fin false m e) (omega arith) (p_fin m e), le_or (m * up e * 1) (240 * down e) (omega arith))
wide _ (sized true m e h) =
    (ge_or (240 * down e) (m * up e * 1) (omega arith), neg_le 15 4 (fin false m e) (omega arith) (p_fin m e))

wider : (x : Float) → T (within 120 x) → T (within 240 x)
unfolding decimal minus_decimal
wider x h = let p = wide x (is_sized 15 3 x (at_least 120 x h) (at_most 120 x h)) in is_within 240 x p.0 p.1

pub lowered_within : (x : Float) → T (within 240 x) → T (within 240 (lowered x).semitones)
unfolding lowered
lowered_within x h = go (lt (decimal 120 0) x) refl
  where
    go : (b : Bool) → lt (decimal 120 0) x ≡ b
        → T (within 240 (cond {A =
        Shifted} b (record { semitones = x ⊖ decimal 120 0; scale = decimal 1 0 ⊗ decimal 1024 0 }) (record
        { semitones = x; scale = decimal 1 0 })).semitones)
    go true g = wider (x ⊖ decimal 120 0) (less_within x h g)
    go false g = h

pub raised_within : (x : Shifted) → T (within 240 x.semitones) → lt (decimal 120 0) x.semitones ≡ false
    → T (within 120 (raised x).semitones)
unfolding raised
raised_within x h a = go (lt x.semitones (minus_decimal 120 0)) refl
  where
    go : (b : Bool) → lt x.semitones (minus_decimal 120 0) ≡ b
        → T (within 120 (cond {A = Shifted} b (record { semitones = x.semitones ⊕ decimal 120 0; scale = x.scale ⊗ (decimal 1 0 ⊘ decimal 1024 0) }) x).semitones)
    go true g = more_within x.semitones h g
    go false g = between_within x.semitones h a g

lowered_below : (x : Float) → T (within 240 x) → lt (decimal 120 0) (lowered x).semitones ≡ false
unfolding lowered
lowered_below x h = go (lt (decimal 120 0) x) refl
  where
    go : (b : Bool) → lt (decimal 120 0) x ≡ b
        → lt (decimal 120 0) (cond {A =
        Shifted} b (record { semitones = x ⊖ decimal 120 0; scale = decimal 1 0 ⊗ decimal 1024 0 }) (record
        { semitones = x; scale = decimal 1 0 })).semitones ≡ false
    go true g = lowered_once x h g
    go false g = g

pub handed_on : (x : Float) → T (within 240 x) → T (within 120 (raised (lowered x)).semitones)
handed_on x h = raised_within (lowered x) (lowered_within x h) (lowered_below x h)

-- ---- the Rust's loops end where the definition says, after one turn each at most

pub lowers : (x : Float) → T (within 240 x)
    → EndsOnce above down120 times1024 (record { semitones = x; scale = decimal 1 0 }) (lowered x)
unfolding lowered
lowers x h = ends_once above down120 times1024 x (decimal 1 0) (lowered_once x h)

pub raises : (x : Shifted) → T (within 240 x.semitones) → EndsOnce below up120 over1024 x (raised x)
unfolding raised
raises x h = ends_once below up120 over1024 x.semitones x.scale (raised_once x.semitones h)

pub loops_end : (x : Float) {y : Shifted} → T (within 240 x) → y ≡ raised (lowered x)
    → (y ≡ raised (lowered x)) × Looped x y
loops_end x h e =
    let r : Looped x (raised (lowered x)) =
    record { between = lowered x; down = lowers x h; up = raises (lowered x) (lowered_within x h) } in
    (e, subst (Looped x) (sym e) r)

-- ---- the three ways through both turns

module _ (x : Float) where
  pub lessened : T (within 240 x) → lt (decimal 120 0) x ≡ true
      → ◌≡◌ {A = Shifted} (record { semitones = x ⊖ decimal 120 0; scale = decimal 1024 0 }) (raised (lowered x))
  unfolding raised lowered decimal minus_decimal mul round
  lessened h g = simp (g, not_raised x h g)

  module _ (not_above : lt (decimal 120 0) x ≡ false) where
    pub raised_up : lt x (minus_decimal 120 0) ≡ true
        → ◌≡◌ {A = Shifted} (record { semitones = x ⊕ decimal 120 0; scale = decimal 1 0 ⊘ decimal 1024 0 }) (raised (lowered x))
    unfolding raised lowered decimal minus_decimal mul div round
    raised_up g = simp (not_above, g)

    pub as_it_is : lt x (minus_decimal 120 0) ≡ false
        → ◌≡◌ {A = Shifted} (record { semitones = x; scale = decimal 1 0 }) (raised (lowered x))
    unfolding raised lowered
    as_it_is g = simp (not_above, g)

-- ---- the whole ratio, from what its calls ensure

pub inside : (high low : List Float) (s : Float) {y : Shifted} {q : Float} → T (within 240 s) → y ≡ raised (lowered s)
    → q ≡ ratio_in high low y.semitones
    → y.scale ⊗ q ≡ ratio_of high low s
unfolding ratio_of
inside high low s h ey eq = simp (is_true (within 240 s) h, eq, ey)

pub outside : (high low : List Float) (s : Float) → le (minus_decimal 240 0) s ≡ true → le s (decimal 240 0) ≡ false
    → decimal 1 0 ≡ ratio_of high low s
unfolding ratio_of within
outside high low s l h = simp (l, h)

pub far_below : (high low : List Float) (s : Float) → le (minus_decimal 240 0) s ≡ false
    → decimal 1 0 ≡ ratio_of high low s
unfolding ratio_of within
far_below high low s l = simp l

-- with tables that were made on the way
pub made : (s : Float) {h high l low : List Float} {r : Float} → h ≡ high → l ≡ low → r ≡ ratio_of h l s
    → r ≡ ratio_of high low s
made s eh el er = simp (er, eh, el)

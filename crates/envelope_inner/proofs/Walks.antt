-- One turn of the walk over the stages. Assumes nothing.
use mathlib.Core.Path.{◌≡◌, refl}
use mathlib.Core.Bool.{true, false}
use mathlib.Core.List.{List}
use Prim.Native.Nat.{ℕ, suc, ◌+◌, ◌-◌, ◌<◌}
use native.Mathlib.Numerals.{add-one}
use native.Mathlib.Omega.{arith}
use lib.ListN.{get_or, length}
use lib.Ieee.{Float, nan, lt}
use Rattle.std.proofs.Common.{take}
use Rattle.std.proofs.lemmas.List.{get_or-take, length-take-le}
use Rattle.numbers.specs.F32.{◌⊖◌}
use Rattle.envelope_inner.specs.Scrub.{duration, reached}

module _ (n stage : ℕ) (increment : List Float) (t : Float) where
  -- none is left
  pub reached_last : n ≡ 0 → reached n stage increment t ≡ record { stage = stage; t = t }
  unfolding reached
  reached_last e = rw e

  -- the time ends in this one
  pub reached_here : (k : ℕ) → n ≡ suc k → lt t (duration increment stage) ≡ true
      → reached n stage increment t ≡ record { stage = stage; t = t }
  unfolding reached
  reached_here k e h = rw (e, h)

  -- it lasts longer
  pub reached_on : (k : ℕ) → n ≡ suc k → lt t (duration increment stage) ≡ false
      → reached n stage increment t ≡ reached k (stage + 1) increment (t ⊖ duration increment stage)
  unfolding reached
  reached_on k e h = rw (e, h, add-one)

-- the walk over the first three of four increments
module _ (increments : List Float) (stage : ℕ) (t : Float) where
  module _ (below : stage < length (take 3 increments)) (four : length increments ≡ 4) where
    third : stage < 3
    third = omega (arith, length-take-le 3 increments (omega arith))

    same : get_or (take 3 increments) stage nan ≡ get_or increments stage nan
    same = get_or-take 3 increments stage nan third

    pub walk_here : lt t (duration (take 3 increments) stage) ≡ true
        → reached (3 - stage) stage increments t ≡ record { stage = stage; t = t }
    walk_here h =
        let i = third in
        reached_here (3 - stage) stage increments t (3 - (stage + 1)) (omega arith) (rw same at h)

    pub walk_on : lt t (duration (take 3 increments) stage) ≡ false
        → reached (3 - stage) stage increments t
        ≡ reached (3 - (stage + 1)) (stage + 1) increments (t ⊖ duration (take 3 increments) stage)
    walk_on h =
        let i = third in
        rw same (reached_on (3 - stage) stage increments t (3 - (stage + 1)) (omega arith) (rw same at h))

  pub walk_done : stage ≡ length (take 3 increments) → length increments ≡ 4
      → reached (3 - stage) stage increments t ≡ record { stage = 3; t = t }
  walk_done e four =
      let i : stage ≡ 3 = omega (arith, length-take-le 3 increments (omega arith)) in
      rw i (reached_last 0 3 increments t refl)

-- A loop of two floats that takes one turn at most: while t holds of the first, it becomes f of itself, and the second
-- g of itself. Both loops of the ratio are such. Assumes nothing.
use mathlib.Core.Path.{◌≡◌, refl, sym, subst, ◌∙◌}
use mathlib.Core.Bool.{Bool, true, false, cond}
use Prim.Native.Nat.{ℕ, ◌+◌, ◌<◌, ◌≤◌}
use native.Mathlib.Omega.{arith}
use lib.Ieee.{Float}
use Rattle.numbers.proofs.Views.{on}
use Rattle.units.specs.declared.Shifted.{Shifted}
use Rattle.units.specs.Loops.{Stands, first, next, EndsOnce}

-- where the loop can stand that began at x and z
pub data Turned (t : Float → Bool) (f g : Float → Float) (x z : Float) : Float → Float → Type 0 where
  begun : Turned t f g x z x z
  turned : t x ≡ true → Turned t f g x z (f x) (g z)

-- the turns that are left
abbrev pub turns_left : (Float → Bool) → Float → ℕ
turns_left t s = cond (t s) 1 0

module _ (t : Float → Bool) (f g : Float → Float) (x z : Float) (once : t x ≡ true → t (f x) ≡ false) where
  pub again : {s w : Float} → Turned t f g x z s w → t s ≡ true → Turned t f g x z (f s) (g w)
  again begun h = turned h
  again (turned e) h = on (sym h ∙ once e)

  pub fewer : {s w : Float} → Turned t f g x z s w → t s ≡ true → turns_left t (f s) < turns_left t s
  fewer begun h = rw (h, once h) (omega arith)
  fewer (turned e) h = on (sym h ∙ once e)

  pub ends : {s w : Float} → Turned t f g x z s w → t s ≡ false
      → ◌≡◌ {A =
      Shifted} (record { semitones = s; scale = w }) (cond (t x) (record { semitones = f x; scale = g z })
      (record { semitones = x; scale = z }))
  ends begun h = simp h
  ends (turned e) h = simp e

-- ---- where it can stand after any number of turns, and that it ends

one_left : (t : Float → Bool) (x : Float) → turns_left t x ≤ 1
one_left t x = go (t x)
  where
    go : (b : Bool) → cond b 1 0 ≤ 1
    go true = omega arith
    go false = omega arith

module _ (t : Float → Bool) (f g : Float → Float) (x z : Float) (once : t x ≡ true → t (f x) ≡ false) where
  -- it stands nowhere else, however many turns it may take
  stood : {n : ℕ} {y : Shifted} → Stands t f g (record { semitones = x; scale = z }) n y
      → Turned t f g x z y.semitones y.scale
  stood first = begun
  stood (next p h) = again t f g x z once (stood p) h

  -- the turns taken and those left are one at most
  counted : {n : ℕ} {y : Shifted} → Stands t f g (record { semitones = x; scale = z }) n y
      → n + turns_left t y.semitones ≤ 1
  counted first = let a = one_left t x in omega arith
  counted (next p h) = let a = counted p in let b = fewer t f g x z once (stood p) h in omega arith

  pub ends_once : EndsOnce t f g (record { semitones = x; scale = z })
      (cond (t x) (record { semitones = f x; scale = g z }) (record { semitones = x; scale = z }))
  ends_once = go (t x) refl
    where
      only_there : (b : Bool) → t x ≡ b → (n : ℕ) (y : Shifted)
          → Stands t f g (record { semitones = x; scale = z }) n y
          → t y.semitones ≡ false
          → y ≡ cond b (record { semitones = f x; scale = g z }) (record { semitones = x; scale = z })
      only_there b e n y p h =
          subst (λ (b : Bool). y ≡ cond b
          (record { semitones = f x; scale = g z }) (record { semitones = x; scale = z })) e
          (ends t f g x z once (stood p) h)

      few : (n : ℕ) (y : Shifted) → Stands t f g (record { semitones = x; scale = z }) n y → n ≤ 1
      few n y p = let a = counted p in omega arith

      go : (b : Bool) → t x ≡ b → EndsOnce t f g (record { semitones = x; scale = z })
          (cond b (record { semitones = f x; scale = g z }) (record { semitones = x; scale = z }))
      go true e = record { once = few; turns = 1; reached = next first e; over = once e; only = only_there true e }
      go false e = record { once = few; turns = 0; reached = first; over = e; only = only_there false e }

-- What the test of a table says of the operators. Assumes nothing.
use mathlib.Core.Path.{◌≡◌, refl, sym}
use mathlib.Core.Bool.{Bool, true, false, cond, ◌||◌, false≢true, and-eq-true_iff}
use Prim.Native.Nat.{ℕ, ◌≤◌, ◌<◌}
use native.Mathlib.Decide.{dec_lt}
use native.Mathlib.Omega.{arith}
use mathlib.Core.List.{List, [], ◌∷◌}
use lib.Dec.{eqb}
use lib.ListN.{length, take}
use borrow.Rule.Slice.PartMut.{put_mid}
use borrow.Author.Tests.{eqb-true}
use Rattle.std.specs.Prelude.{Result, Ok, Err}
use Rattle.refusals.specs.declared.Refusal.{Refusal}
use Rattle.refusals.specs.declared.Refusal.TheVariants.{WrongTable}
use Rattle.algorithms.specs.Plan.{counted}
use Rattle.algorithms.specs.Table.{six, tabled}

-- operators that are counted are some, and at most six
counted_range : (operators : ℕ) → counted operators ≡ true → (0 < operators) × (operators ≤ 6)
unfolding counted
counted_range operators e = pick (eqb operators 4) (eqb operators 6) refl refl e
  where
    pick : (b d : Bool) → eqb operators 4 ≡ b → eqb operators 6 ≡ d → (b || d) ≡ true
        → (0 < operators) × (operators ≤ 6)
    pick true d f g e = let z = eqb-true operators 4 f in (omega arith, omega arith)
    pick false true f g e = let z = eqb-true operators 6 g in (omega arith, omega arith)
    pick false false f g e = absurd (false≢true e)

pub counted_some : (operators : ℕ) → counted operators ≡ true → 0 < operators
counted_some operators e = (counted_range operators e).0

pub counted_few : (operators : ℕ) → counted operators ≡ true → operators ≤ 6
counted_few operators e = (counted_range operators e).1

pub tabled_few : (operators : ℕ) (table : List ℕ) (row : ℕ) → tabled operators table row ≡ true → operators ≤ 6
unfolding tabled
tabled_few operators table row e = counted_few operators ((and-eq-true_iff (counted operators) _).0 e).0

-- a row that was found
pub found_few : (operators : ℕ) (table : List ℕ) (row : ℕ) (bytes found : List ℕ)
    → ◌≡◌ {A = Result (List ℕ) Refusal} (Ok bytes) (cond (tabled operators table row) (Ok found) (Err WrongTable))
    → operators ≤ 6
found_few operators table row bytes found e = pick (tabled operators table row) refl e
  where
    pick : (b : Bool) → tabled operators table row ≡ b
        → ◌≡◌ {A = Result (List ℕ) Refusal} (Ok bytes) (cond b (Ok found) (Err WrongTable)) → operators ≤ 6
    pick true x e = tabled_few operators table row x
    pick false x e = absurd cc

-- bytes copied over zeros
pub six_copied : (l : List ℕ) (n : ℕ) → n ≤ length l → n ≤ 6 → (n < 6 → length l ≡ n)
    → put_mid 0 n (0 ∷ 0 ∷ 0 ∷ 0 ∷ 0 ∷ 0 ∷ []) (take n l) ≡ six l
unfolding six
six_copied [] n h k e = let z : n ≡ 0 = omega arith in rw z refl
six_copied (a ∷ []) n h k e = let z : n ≡ 1 = sym (e (omega arith)) in rw z refl
six_copied (a ∷ b ∷ []) n h k e = let z : n ≡ 2 = sym (e (omega arith)) in rw z refl
six_copied (a ∷ b ∷ c ∷ []) n h k e = let z : n ≡ 3 = sym (e (omega arith)) in rw z refl
six_copied (a ∷ b ∷ c ∷ d ∷ []) n h k e = let z : n ≡ 4 = sym (e (omega arith)) in rw z refl
six_copied (a ∷ b ∷ c ∷ d ∷ i ∷ []) n h k e = let z : n ≡ 5 = sym (e (omega arith)) in rw z refl
six_copied (a ∷ b ∷ c ∷ d ∷ i ∷ j ∷ l) n h k e =
    let z : n ≡ 6 = pick (dec_lt n 6) in rw z refl
  where
    pick : Dec (n < 6) → n ≡ 6
    pick (yes x) = let y = e x in omega arith
    pick (no x) = omega arith

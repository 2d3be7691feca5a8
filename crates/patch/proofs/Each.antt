-- Facts of every field of a table, and the limits as such a fact. Assumes nothing.
use mathlib.Core.Path.{◌≡◌, refl, ap, ap₂}
use mathlib.Core.Bool.{Bool, true, ◌&&◌, and-eq-true_iff}
use mathlib.Core.List.{List, [], ◌∷◌, map}
use Prim.Native.Nat.{ℕ, ◌≤◌}
use borrow.Author.Tests.{leb-true, le-leb}
use lib.Dec.{leb}
use lib.ListN.{get_or, drop}
use Rattle.patch.specs.Layout.{Field}
use Rattle.patch.specs.Packed.{within}

-- a test of every element, and a fact of every element
unfoldable pub every : {N : Type 0} → (N → Bool) → List N → Bool
every t [] = true
every t (n ∷ ns) = t n && every t ns

abbrev pub Each : {N : Type 0} → (N → Type 0) → List N → Type 0
Each P [] = Unit {0}
Each P (n ∷ ns) = P n × Each P ns

module _ {N : Type 0} where
  pub each : (t : N → Bool) (ns : List N) → every t ns ≡ true → Each (λ n. t n ≡ true) ns
  unfolding every
  each t [] e = tt
  each t (n ∷ ns) e = let h = (and-eq-true_iff (t n) (every t ns)).0 e in (h.0, each t ns h.1)

  pub both_each : {P Q R : N → Type 0} → ((n : N) → P n → Q n → R n) → (ns : List N) → Each P ns → Each Q ns → Each R ns
  both_each f [] ps qs = tt
  both_each f (n ∷ ns) (p, ps) (q, qs) = (f n p q, both_each f ns ps qs)

  pub map_each : {B : Type 0} (f h : N → B) (ns : List N) → Each (λ n. f n ≡ h n) ns → map f ns ≡ map h ns
  map_each f h [] es = refl
  map_each f h (n ∷ ns) (e, es) = ap₂ ◌∷◌ e (map_each f h ns es)

  pub each_map : (f h : N → ℕ) (ns : List N) → map f ns ≡ map h ns → Each (λ n. f n ≡ h n) ns
  each_map f h [] e = tt
  each_map f h (n ∷ ns) e = (ap (λ (l : List ℕ). get_or l 0 0) e, each_map f h ns (ap (drop 1) e))

module _ {N : Type 0} (field : N → Field) (g : N → ℕ) where
  pub each_within : (ns : List N) → within field g ns ≡ true → Each (λ n. g n ≤ (field n).largest) ns
  unfolding within
  each_within [] e = tt
  each_within (n ∷ ns) e =
      let p = (and-eq-true_iff (leb (g n) (field n).largest) (within field g ns)).0 e in
      (leb-true (g n) (field n).largest p.0, each_within ns p.1)

  pub within_each : (ns : List N) → Each (λ n. g n ≤ (field n).largest) ns → within field g ns ≡ true
  unfolding within
  within_each [] es = refl
  within_each (n ∷ ns) (e, es) = rw (le-leb (g n) (field n).largest e) (within_each ns es)

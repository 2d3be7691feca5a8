-- A patch is made of its numbers: a list is its elements, and a struct its fields. Assumes nothing.
use mathlib.Core.Path.{◌≡◌, refl, sym, ◌∙◌, ap, ap₂}
use mathlib.Core.List.{List, [], ◌∷◌}
use Prim.Native.Nat.{ℕ, zero, suc, ◌<◌}
use native.Mathlib.Omega.{arith}
use lib.ListN.{length, get_or}
use Rattle.patch.specs.declared.Envelope.{Envelope}
use Rattle.patch.specs.declared.Operator.{Operator}
use Rattle.patch.specs.declared.Patch.{Patch}
use Rattle.patch.specs.Form.{envelope_with, scaling_with, operator_with, modulations_with, name_with, patch_with}
use Rattle.patch.specs.Form.{envelope_number, scaling_number, operator_number, lfo_number, operator_at, no_operator}
use Rattle.patch.specs.Form.{number_of, ShapedEnvelope, Shaped}

-- the first numbers of f, and that a list is made of its elements
unfoldable pub firsts : {A : Type 0} → (ℕ → A) → ℕ → List A
firsts f zero = []
firsts f (suc n) = f 0 ∷ firsts (λ i. f (suc i)) n

firsts_of : {A : Type 0} (d : A) (xs : List A) (f : ℕ → A) → ((i : ℕ) → f i ≡ get_or xs i d) → firsts f (length xs) ≡ xs
unfolding firsts
firsts_of d [] f h = refl
firsts_of d (x ∷ xs) f h = ap₂ ◌∷◌ (h 0) (firsts_of d xs (λ i. f (suc i)) (λ i. h (suc i)))

-- a list of n elements, written out
pub listed : {A : Type 0} (d : A) (n : ℕ) (xs : List A) → length xs ≡ n → firsts (λ i. get_or xs i d) n ≡ xs
listed d n xs e = ap (firsts (λ i. get_or xs i d)) (sym e) ∙ firsts_of d xs (λ i. get_or xs i d) (λ i. refl)

envelope_numbers : (e : Envelope) → ShapedEnvelope e → envelope_with (envelope_number e) ≡ e
unfolding envelope_with envelope_number firsts
envelope_numbers e h =
    let r = listed 0 4 e.rate h.rates in
    let l = listed 0 4 e.level h.levels in
    ap₂ (λ (x y : List ℕ). record { rate = x; level = y }) r l

operator_numbers_lem : (o : Operator) → ShapedEnvelope o.envelope → operator_with (operator_number o) ≡ o
unfolding operator_with operator_number scaling_with scaling_number
operator_numbers_lem o h = rw (envelope_numbers o.envelope h)

operators_listed : (os : List Operator) → length os ≡ 6
    → operator_at os 0 ∷ operator_at os 1 ∷ operator_at os 2 ∷ operator_at os 3 ∷ operator_at os 4 ∷ operator_at os 5
    ∷ []
    ≡ os
unfolding operator_at firsts
operators_listed os e = listed no_operator 6 os e

-- a patch is made of its numbers
module _ (p : Patch) (h : Shaped p) where
  abbrev at : ℕ → Operator
  at k = operator_at p.op k

  each_operator : (k : ℕ) → k < 6 → operator_with (operator_number (at k)) ≡ at k
  each_operator k b = operator_numbers_lem (at k) (h.envelopes k b)

  pub patch_numbers : patch_with (number_of p) p.active_operators ≡ p
  unfolding patch_with number_of modulations_with lfo_number name_with firsts
  patch_numbers =
      rw (
        each_operator 0 (omega arith),
        each_operator 1 (omega arith),
        each_operator 2 (omega arith),
        each_operator 3 (omega arith),
        each_operator 4 (omega arith),
        each_operator 5 (omega arith),
        operators_listed p.op h.operators,
        envelope_numbers p.pitch_envelope h.pitch,
        listed 0 10 p.name h.letters,
      )

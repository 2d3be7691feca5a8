-- The packed bytes, block by block: what the stores leave is what the table says. Assumes nothing.
use mathlib.Core.Path.{◌≡◌, refl, sym, ◌∙◌, ap}
use mathlib.Core.Bool.{true, and-eq-true_iff}
use mathlib.Core.List.{List, [], ◌∷◌, ◌++◌, map}
use Prim.Native.Nat.{ℕ, zero, suc, ◌+◌, ◌*◌, ◌<◌, ◌≤◌}
use native.Mathlib.Nat.{add-zero, mul-one, add_assoc}
use native.Mathlib.Numerals.{add-one}
use native.Mathlib.Omega.{arith}
use lib.Dec.{eqb}
use lib.ListN.{get_or, replicate}
use lib.Seq.{paste}
use Rattle.patch.specs.declared.Operator.{Operator}
use Rattle.patch.specs.declared.Patch.{Patch}
use Rattle.patch.specs.Layout.{Place, Of, later, envelope_field, scaling_field, operator_field, lfo_field, field_of}
use Rattle.patch.specs.Layout.{envelope_names, scaling_names, operator_names, lfo_names, letters, shared_names, layout}
use Rattle.patch.specs.Form.{envelope_number, scaling_number, operator_number, lfo_number, operator_at, number_of}
use Rattle.patch.specs.Packed.{within, operator_fits, patch_fits}
use Rattle.patch_packer.specs.Packing.{bytes_of, operator_bytes, shared_bytes, packed}
use Rattle.patch.proofs.Each.{every, each_within}
use Rattle.patch_limits.proofs.Within.{within_append}
use Rattle.patch_packer.proofs.Tables.{sum_of, sums_of, whole_bytes, bytes_append, bytes_later}

-- a patch that fits: each of its parts does
module _ (p : Patch) (fits : patch_fits p ≡ true) where
  abbrev W : List Place → Type 0
  W ns = within field_of (number_of p) ns ≡ true

  split : (xs ys : List Place) → W (xs ++ ys) → W xs × W ys
  split xs ys e =
      (and-eq-true_iff (within field_of (number_of p) xs) (within field_of (number_of p) ys)).0
      (sym (within_append field_of (number_of p) xs ys) ∙ e)

  by_parts : W (map (Of 0) operator_names) × W (map (Of 1) operator_names) × W (map (Of 2) operator_names)
      × W (map (Of 3) operator_names) × W (map (Of 4) operator_names) × W (map (Of 5) operator_names) × W shared_names
  unfolding patch_fits layout
  by_parts =
      let all = (and-eq-true_iff (within field_of (number_of p) layout) (eqb p.active_operators 63)).0 fits in
      let a = split (map (Of 0) operator_names) _ all.0 in
      let b = split (map (Of 1) operator_names) _ a.1 in
      let c = split (map (Of 2) operator_names) _ b.1 in
      let d = split (map (Of 3) operator_names) _ c.1 in
      let e = split (map (Of 4) operator_names) _ d.1 in
      let f = split (map (Of 5) operator_names) _ e.1 in
      (a.0, b.0, c.0, d.0, e.0, f.0, f.1)

  place : (k : ℕ) → W (map (Of k) operator_names) → operator_fits (operator_at p.op k) ≡ true
  unfolding operator_fits within operator_names envelope_names scaling_names field_of later number_of operator_field
  place k e = e

  pub operator_fits_lem : (k : ℕ) → k < 6 → operator_fits (operator_at p.op k) ≡ true
  operator_fits_lem zero h = place 0 by_parts.0
  operator_fits_lem (suc zero) h = place 1 by_parts.1
  operator_fits_lem (suc (suc zero)) h = place 2 by_parts.2
  operator_fits_lem (suc (suc (suc zero))) h = place 3 by_parts.3
  operator_fits_lem (suc (suc (suc (suc zero)))) h = place 4 by_parts.4
  operator_fits_lem (suc (suc (suc (suc (suc zero))))) h = place 5 by_parts.5
  operator_fits_lem (suc (suc (suc (suc (suc (suc k)))))) h = let z : ⊥ = omega arith in absurd z

  -- the limits of the numbers that share a byte
  pub shared_low : (p.feedback ≤ 7) × (p.reset_phase ≤ 1) × (p.modulations.reset_phase ≤ 1)
      × (p.modulations.waveform ≤ 5) × (p.modulations.pitch_mod_sensitivity ≤ 15)
  unfolding shared_names envelope_names lfo_names letters field_of lfo_field number_of lfo_number
  shared_low =
      let f = (each_within field_of (number_of p) shared_names by_parts.6).1.1.1.1.1.1.1.1.1 in
      let r = f.1.1.1.1.1.1 in
      (f.0, f.1.0, r.0, r.1.0, r.1.1.0)

  -- the bytes behind the operators, written out
  pub shared_bytes_lem :
      shared_bytes p
      ≡ get_or p.pitch_envelope.rate 0 0
      ∷ get_or p.pitch_envelope.rate 1 0
      ∷ get_or p.pitch_envelope.rate 2 0
      ∷ get_or p.pitch_envelope.rate 3 0
      ∷ get_or p.pitch_envelope.level 0 0
      ∷ get_or p.pitch_envelope.level 1 0
      ∷ get_or p.pitch_envelope.level 2 0
      ∷ get_or p.pitch_envelope.level 3 0
      ∷ p.algorithm
      ∷ (p.feedback + p.reset_phase * 8)
      ∷ p.modulations.rate
      ∷ p.modulations.delay
      ∷ p.modulations.pitch_mod_depth
      ∷ p.modulations.amp_mod_depth
      ∷ (p.modulations.reset_phase + p.modulations.waveform * 2 + p.modulations.pitch_mod_sensitivity * 16)
      ∷ p.transpose
      ∷ get_or p.name 0 0
      ∷ get_or p.name 1 0
      ∷ get_or p.name 2 0
      ∷ get_or p.name 3 0
      ∷ get_or p.name 4 0
      ∷ get_or p.name 5 0
      ∷ get_or p.name 6 0
      ∷ get_or p.name 7 0
      ∷ get_or p.name 8 0
      ∷ get_or p.name 9 0
      ∷ []
  unfolding shared_bytes sums_of sum_of every shared_names envelope_names lfo_names letters field_of later lfo_field
      envelope_field number_of lfo_number envelope_number
  shared_bytes_lem =
      whole_bytes field_of (number_of p) shared_names by_parts.6 refl 102 26 ∙ simp (mul-one, add-zero, add_assoc)

-- an operator that fits
module _ (o : Operator) (fits : operator_fits o ≡ true) where
  -- the limits of the numbers that share a byte
  pub operator_low : (o.keyboard_scaling.left_curve ≤ 3) × (o.keyboard_scaling.right_curve ≤ 3) × (o.rate_scaling ≤ 7)
      × (o.detune ≤ 14) × (o.amp_mod_sensitivity ≤ 3) × (o.velocity_sensitivity ≤ 7) × (o.mode ≤ 1) × (o.coarse ≤ 31)
  unfolding operator_fits operator_names envelope_names scaling_names operator_field scaling_field operator_number
      scaling_number
  operator_low =
      let c = (each_within operator_field (operator_number o) operator_names fits).1.1.1.1.1.1.1.1.1.1.1 in
      let r = c.1.1 in
      let v = r.1.1.1 in
      (c.0, c.1.0, r.0, r.1.0, r.1.1.0, v.0, v.1.1.0, v.1.1.1.0)

  -- its bytes, written out
  pub operator_bytes_lem :
      operator_bytes o
      ≡ get_or o.envelope.rate 0 0
      ∷ get_or o.envelope.rate 1 0
      ∷ get_or o.envelope.rate 2 0
      ∷ get_or o.envelope.rate 3 0
      ∷ get_or o.envelope.level 0 0
      ∷ get_or o.envelope.level 1 0
      ∷ get_or o.envelope.level 2 0
      ∷ get_or o.envelope.level 3 0
      ∷ o.keyboard_scaling.break_point
      ∷ o.keyboard_scaling.left_depth
      ∷ o.keyboard_scaling.right_depth
      ∷ (o.keyboard_scaling.left_curve + o.keyboard_scaling.right_curve * 4)
      ∷ (o.rate_scaling + o.detune * 8)
      ∷ (o.amp_mod_sensitivity + o.velocity_sensitivity * 4)
      ∷ o.level
      ∷ (o.mode + o.coarse * 2)
      ∷ o.fine
      ∷ []
  unfolding operator_bytes operator_fits sums_of sum_of every operator_names envelope_names scaling_names operator_field
      envelope_field scaling_field operator_number envelope_number scaling_number
  operator_bytes_lem =
      whole_bytes operator_field (operator_number o) operator_names fits refl 0 17 ∙ simp (mul-one, add-zero)

-- operator k's bytes in the patch are the operator's own
block : (p : Patch) (k : ℕ)
    → bytes_of field_of (number_of p) (map (Of k) operator_names) (k * 17) 17 ≡ operator_bytes (operator_at p.op k)
unfolding operator_bytes field_of number_of
block p k =
    ap (λ (x : ℕ). bytes_of field_of (number_of p) (map (Of k) operator_names) x 17) (sym (add-zero (k * 17)))
    ∙ bytes_later operator_field field_of (number_of p) (Of k) (k * 17) (λ m. refl) operator_names 17 0

join : {a b c d : List ℕ} → a ≡ b → c ≡ d → a ++ c ≡ b ++ d
join e f = rw (e, f)

-- the packed patch: the operators' bytes, and those behind them
pub by_blocks : (p : Patch)
    → packed p
    ≡ operator_bytes (operator_at p.op 0)
    ++ (operator_bytes (operator_at p.op 1)
    ++ (operator_bytes (operator_at p.op 2)
    ++ (operator_bytes (operator_at p.op 3)
    ++ (operator_bytes (operator_at p.op 4)
    ++ (operator_bytes (operator_at p.op 5)
    ++ shared_bytes p)))))
unfolding packed shared_bytes layout every operator_names envelope_names scaling_names lfo_names letters shared_names
    field_of later operator_field envelope_field scaling_field lfo_field
by_blocks p =
    bytes_append field_of (number_of p) 17 (map (Of 0) operator_names) _ refl refl 17 111 0 refl
    ∙ join (block p 0) (bytes_append field_of (number_of p) 34 (map (Of 1) operator_names) _ refl refl 17 94 17 refl
    ∙ join (block p 1) (bytes_append field_of (number_of p) 51 (map (Of 2) operator_names) _ refl refl 17 77 34 refl
    ∙ join (block p 2) (bytes_append field_of (number_of p) 68 (map (Of 3) operator_names) _ refl refl 17 60 51 refl
    ∙ join (block p 3) (bytes_append field_of (number_of p) 85 (map (Of 4) operator_names) _ refl refl 17 43 68 refl
    ∙ join (block p 4) (bytes_append field_of (number_of p) 102 (map (Of 5) operator_names) _ refl refl 17 26 85 refl
    ∙ join (block p 5) refl)))))

-- operator k's bytes
abbrev own_bytes : Patch → ℕ → List ℕ
own_bytes p k = operator_bytes (operator_at p.op k)

-- the operators' bytes pasted into zeros, from the first to the fifth
abbrev five : Patch → List ℕ
five p =
    paste (paste (paste (paste (paste (replicate 128 0) 0 (own_bytes p 0) 17) 17 (own_bytes p 1) 17) 34 (own_bytes p 2)
    17) 51 (own_bytes p 3) 17) 68 (own_bytes p 4) 17

whole : (p : Patch)
    → paste (paste (five p) 85 (own_bytes p 5) 17) 102 (shared_bytes p) 26
    ≡ own_bytes p 0 ++ (own_bytes p 1 ++ (own_bytes p 2 ++ (own_bytes p 3 ++ (own_bytes p 4 ++ (own_bytes p 5
    ++ shared_bytes p)))))
unfolding operator_bytes shared_bytes bytes_of
whole p = refl

-- zeros with the first k operators' bytes pasted in, each into its place
unfoldable pub first_blocks : List Operator → ℕ → List ℕ
first_blocks os zero = replicate 128 0
first_blocks os (suc k) = paste (first_blocks os k) (17 * k) (operator_bytes (operator_at os k)) 17

-- one more
pub next_block : (os : List Operator) (k : ℕ) (l m : List ℕ) → l ≡ first_blocks os k
    → m ≡ paste l (17 * k) (operator_bytes (operator_at os k)) 17 → m ≡ first_blocks os (k + 1)
unfolding first_blocks
next_block os k l m e f = rw (add-one, sym e) f

-- six operators and the rest, each pasted into its place, are the packed patch
pub pasted : (p : Patch) (k : ℕ) (l m : List ℕ) → k ≡ 6 → l ≡ first_blocks p.op k → m ≡ paste l 102 (shared_bytes p) 26
    → m ≡ packed p
unfolding first_blocks
pasted p k l m six e f =
    f ∙ ap (λ (x : List ℕ). paste x 102 (shared_bytes p) 26) (e ∙ ap (first_blocks p.op) six)
    ∙ (whole p ∙ sym (by_blocks p))

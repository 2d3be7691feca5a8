-- The limits of number 6, part by part: a patch fits where its operators, its pitch envelope, its modulations, its
-- name and its single numbers do. Assumes nothing.
use mathlib.Core.Path.{◌≡◌, refl, sym, ◌∙◌, ap}
use mathlib.Core.Bool.{Bool, ◌&&◌, and_assoc, and-true}
use mathlib.Core.List.{List, [], ◌∷◌, ◌++◌, map}
use Prim.Native.Nat.{ℕ}
use lib.ListN.{get_or}
use lib.Dec.{eqb, leb}
use Rattle.patch.specs.declared.Operator.{Operator}
use Rattle.patch.specs.declared.Patch.{Patch}
use Rattle.patch.specs.Layout.{Field, later, Place, Of, envelope_field, scaling_field, operator_field, field_of, stages}
use Rattle.patch.specs.Layout.{envelope_names, scaling_names, operator_names, lfo_names, letters, shared_names, layout}
use Rattle.patch.specs.Layout.{patch_sensitivity}
use Rattle.patch.specs.Form.{envelope_number, scaling_number, operator_number, lfo_number, operator_at, number_of}
use Rattle.patch.specs.Packed.{within, stages_fit, scaling_fits, operator_fits, operators_fit, modulations_fit}
use Rattle.patch.specs.Packed.{name_fits}
use Rattle.patch.specs.Packed.{patch_fits}

module _ {N : Type 0} (field : N → Field) (g : N → ℕ) where
  pub within_append : (xs ys : List N) → within field g (xs ++ ys) ≡ within field g xs && within field g ys
  unfolding within
  within_append [] ys = refl
  within_append (x ∷ xs) ys =
      ap (λ (b : Bool). leb (g x) (field x).largest && b) (within_append xs ys)
      ∙ sym (and_assoc (leb (g x) (field x).largest) (within field g xs) (within field g ys))

-- an operator's limits, by its parts
pub operator_fits_lem : (o : Operator)
    → operator_fits o
    ≡ stages_fit o.envelope.rate && stages_fit o.envelope.level && scaling_fits o.keyboard_scaling
    && leb o.rate_scaling 7 && leb o.detune 14 && leb o.amp_mod_sensitivity 3
    && leb o.velocity_sensitivity 7 && leb o.level 99 && leb o.mode 1 && leb o.coarse 31
    && leb o.fine 99
unfolding operator_fits stages_fit scaling_fits within stages operator_names envelope_names scaling_names operator_field
    envelope_field scaling_field operator_number envelope_number scaling_number
operator_fits_lem o = simp (and_assoc, and-true)

-- the limits of four rates or levels, one by one
pub stages_fit_lem : (l : List ℕ)
    → stages_fit l ≡ leb (get_or l 0 0) 99 && leb (get_or l 1 0) 99 && leb (get_or l 2 0) 99 && leb (get_or l 3 0) 99
unfolding stages_fit within stages envelope_field
stages_fit_lem l = simp (and_assoc, and-true)

-- a name's limits, letter by letter
pub name_fits_lem : (l : List ℕ)
    → name_fits l
    ≡ leb (get_or l 0 0) 127 && leb (get_or l 1 0) 127 && leb (get_or l 2 0) 127 && leb (get_or l 3 0) 127
    && leb (get_or l 4 0) 127 && leb (get_or l 5 0) 127 && leb (get_or l 6 0) 127 && leb (get_or l 7 0) 127
    && leb (get_or l 8 0) 127 && leb (get_or l 9 0) 127
unfolding name_fits within letters field_of
name_fits_lem l = simp (and_assoc, and-true)

module _ (p : Patch) where
  abbrev W : List Place → Bool
  W = within field_of (number_of p)

  by_operators : W layout
      ≡ W (map (Of 0) operator_names)
      && (W (map (Of 1) operator_names) && (W (map (Of 2) operator_names) && (W (map (Of 3) operator_names)
      && (W (map (Of 4) operator_names) && (W (map (Of 5) operator_names) && W shared_names)))))
  unfolding layout
  by_operators = simp (within_append field_of (number_of p))

  operator_places : (k : ℕ) → W (map (Of k) operator_names) ≡ operator_fits (operator_at p.op k)
  unfolding operator_fits within operator_names envelope_names scaling_names field_of later number_of operator_field
  operator_places k = refl

  shared_places : W shared_names
      ≡ stages_fit p.pitch_envelope.rate && stages_fit p.pitch_envelope.level && leb p.algorithm 31
      && leb p.feedback 7 && leb p.reset_phase 1 && modulations_fit p.modulations patch_sensitivity
      && leb p.transpose 48 && name_fits p.name
  unfolding stages_fit modulations_fit name_fits within stages shared_names envelope_names lfo_names letters field_of
      later number_of lfo_number envelope_field envelope_number
  shared_places = simp (and_assoc, and-true)

  -- a patch's limits, by its parts
  pub patch_fits_lem : patch_fits p
      ≡ operators_fit p.op && stages_fit p.pitch_envelope.rate && stages_fit p.pitch_envelope.level
      && leb p.algorithm 31 && leb p.feedback 7 && leb p.reset_phase 1
      && modulations_fit p.modulations patch_sensitivity && leb p.transpose 48 && name_fits p.name
      && eqb p.active_operators 63
  unfolding patch_fits operators_fit
  patch_fits_lem = simp (by_operators, operator_places, shared_places, and_assoc)

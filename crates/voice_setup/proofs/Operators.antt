-- What a patch's limits say of one operator. Assumes nothing.
use mathlib.Core.Path.{◌≡◌, refl}
use mathlib.Core.List.{List, [], ◌∷◌}
use Prim.Native.Nat.{ℕ, zero, suc, ◌+◌, ◌≤◌, ◌<◌}
use native.Mathlib.Numerals.{add-one}
use native.Mathlib.Omega.{arith}
use lib.Dec.{T, leb, leb→le}
use lib.ListN.{length, get_or}
use lib.Ieee.{Float}
use lib.Ieee.Fits.{and_l, and_r}
use Rattle.numbers.proofs.Below.{all_below, at_each}
use Rattle.dx_units_inner.specs.declared.Ratio.{Ratio}
use Rattle.dx_units_inner.specs.Units.{operator_level, frequency_ratio}
use Rattle.envelope_stages.specs.Stages.{OnChart}
use Rattle.envelope_inner.specs.declared.Envelope.{Envelope}
use Rattle.envelope_inner.specs.Set.{operator_set}
use Rattle.patch.specs.declared.Operator.{Operator}
use Rattle.patch.specs.Layout.{Field, Fine, operator_field, envelope_field, envelope_names, scaling_names}
use Rattle.patch.specs.Layout.{operator_names}
use Rattle.patch.specs.Form.{operator_number, envelope_number, operator_at}
use Rattle.patch.specs.Packed.{within, operator_fits, operators_fit}
use Rattle.voice_setup.specs.declared.OperatorSetup.{OperatorSetup}
use Rattle.voice_setup.specs.declared.Setup.{Setup}
use Rattle.voice_setup.specs.Setup.{envelope_at, headroom_of, operator_set_up, put_at, set_up_to}

-- an operator of six that fit
pub operator_at_fits : (ops : List Operator) (k : ℕ) → k < 6
    → T (operators_fit ops) → T (operator_fits (operator_at ops k))
unfolding operators_fit all_below
operator_at_fits ops k h t = at_each (λ i. operator_fits (operator_at ops i)) 6 t k h

-- a number of those that are within their fields; `past` is named past the last
pub within_at : {N : Type 0} (field : N → Field) (g : N → ℕ) (past : N) (ns : List N) (i : ℕ)
    → i < length ns → T (within field g ns) → g (get_or ns i past) ≤ (field (get_or ns i past)).largest
unfolding within
within_at field g past [] i h t = absurd (omega arith)
within_at field g past (n ∷ ns) zero h t =
    leb→le (g n) (field n).largest (and_l (leb (g n) (field n).largest) (within field g ns) t)
within_at field g past (n ∷ ns) (suc i) h t =
    within_at field g past ns i (omega arith) (and_r (leb (g n) (field n).largest) (within field g ns) t)

-- the limits that the conversions ask for
pub record Limits (o : Operator) : Type 0 where
  pub levels : OnChart o.envelope.level
  pub sensitivity : o.amp_mod_sensitivity ≤ 3
  pub level : o.level ≤ 99
  pub coarse : o.coarse ≤ 31

number_at : (o : Operator) → T (operator_fits o) → (i : ℕ) → i < length operator_names
    → operator_number o (get_or operator_names i Fine) ≤ (operator_field (get_or operator_names i Fine)).largest
unfolding operator_fits
number_at o t i h = within_at operator_field (operator_number o) Fine operator_names i h t

pub limits : (o : Operator) → T (operator_fits o) → Limits o
unfolding operator_names envelope_names scaling_names operator_field envelope_field operator_number envelope_number
limits o t =
    let at = number_at o t in
    record {
      levels = (at 4 (omega arith), at 5 (omega arith), at 6 (omega arith), at 7 (omega arith));
      sensitivity = at 15 (omega arith);
      level = at 17 (omega arith);
      coarse = at 19 (omega arith);
    }

-- what is computed step by step is what the patch sets up
pub set_up_lem : (high low : List Float) (e : Envelope) (o : Operator) {l : ℕ} {f : Envelope} {h : Float} {r : Ratio}
    → l ≡ operator_level o.level
    → f ≡ operator_set e o.envelope.rate o.envelope.level l
    → h ≡ headroom_of l
    → r ≡ frequency_ratio high low o.mode o.coarse o.fine o.detune
    → record { envelope = f; level_headroom = h; ratio = r } ≡ operator_set_up high low e o
unfolding operator_set_up
set_up_lem high low e o el ef eh er = rw (ef, eh, er, el) refl

-- one operator more
pub set_up_next : (high low : List Float) (ops : List Operator) (k : ℕ) (s₀ : Setup) {s : Setup} {one : OperatorSetup}
    → s ≡ set_up_to high low ops k s₀
    → one ≡ operator_set_up high low (envelope_at s.operator_envelope k) (operator_at ops k)
    → put_at k one s ≡ set_up_to high low ops (k + 1) s₀
unfolding set_up_to
set_up_next high low ops k s₀ es eo = rw (add-one k, eo, es) refl

-- What fields that fit say of an LFO's rate and pitch sensitivity. Assumes nothing.
use mathlib.Core.Path.{◌≡◌, refl}
use mathlib.Core.Bool.{Bool, true, false, ◌&&◌}
use Prim.Native.Nat.{ℕ, ◌≤◌}
use borrow.Author.Tests.{leb-true}
use lib.Dec.{leb}
use Rattle.numbers.proofs.Views.{no, both}
use Rattle.patch.specs.declared.ModulationParameters.{ModulationParameters}
use Rattle.patch.specs.Layout.{lfo_names, lfo_field}
use Rattle.patch.specs.Form.{lfo_number}
use Rattle.patch.specs.Packed.{within, modulations_fit}

last_of_seven : (a b c d e f g : Bool) → (a && (b && (c && (d && (e && (f && (g && true))))))) ≡ true → g ≡ true
last_of_seven true true true true true true true h = refl
last_of_seven true true true true true true false h = no h
last_of_seven true true true true true false g h = no h
last_of_seven true true true true false f g h = no h
last_of_seven true true true false e f g h = no h
last_of_seven true true false d e f g h = no h
last_of_seven true false c d e f g h = no h
last_of_seven false b c d e f g h = no h

module _ (m : ModulationParameters) (limit : ℕ) (h : modulations_fit m limit ≡ true) where
  pub rate_fits_lem : m.rate ≤ 99
  unfolding modulations_fit within lfo_names lfo_field lfo_number
  rate_fits_lem = leb-true m.rate 99 (both _ _ h).0

  pub sensitivity_fits : m.pitch_mod_sensitivity ≤ limit
  unfolding modulations_fit within lfo_names lfo_field lfo_number
  sensitivity_fits =
      leb-true m.pitch_mod_sensitivity limit
      (last_of_seven (leb m.rate 99) (leb m.delay 99) (leb m.pitch_mod_depth 99) (leb m.amp_mod_depth 99)
      (leb m.reset_phase 1) (leb m.waveform 5)
      (leb m.pitch_mod_sensitivity limit) h)

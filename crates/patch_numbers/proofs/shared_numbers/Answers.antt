-- `patch_numbers::shared_numbers` meets its contract. Assumes nothing.
use mathlib.Core.Path.{refl}
use Rattle.patch.specs.Layout.{envelope_names, lfo_names, letters, shared_names}
use Rattle.patch.specs.Form.{envelope_number, lfo_number, number_of}
use Rattle.patch_numbers.specs.Numbers.{shared_numbers}
use Rattle.patch_numbers.proofs.shared_numbers.Goals as goal

pub returns : goal.returns
unfolding shared_numbers shared_names envelope_names lfo_names letters number_of envelope_number lfo_number
returns c = refl

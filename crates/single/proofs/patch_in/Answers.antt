-- `single::patch_in` meets its contract: its data, turned, are the patch's numbers. Assumes nothing.
use mathlib.Core.Path.{◌∙◌, ap}
use Rattle.patch_numbers.specs.Numbers.{patch_of}
use Rattle.single.specs.Single.{single_form}
use Rattle.single.proofs.Orders.{patch_of_turned}
use Rattle.single.proofs.patch_in.Goals as goal

pub returns : goal.returns
unfolding single_form
returns c =
    c.patch_of.ensures ∙ ap patch_of c.turned-numbers.ensures ∙ patch_of_turned _

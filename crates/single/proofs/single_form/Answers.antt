-- `single::single_form` meets its contract. Assumes nothing.
use Rattle.single.specs.Single.{single_form}
use Rattle.single.proofs.single_form.Goals as goal

pub returns : goal.returns
unfolding single_form
returns c = c.yamaha_form.ensures

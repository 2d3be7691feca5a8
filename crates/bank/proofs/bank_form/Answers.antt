-- `bank::bank_form` meets its contract. Assumes nothing.
use Rattle.bank.specs.Bank.{bank_form}
use Rattle.bank.proofs.bank_form.Goals as goal

pub returns : goal.returns
unfolding bank_form
returns c = c.yamaha_form.ensures

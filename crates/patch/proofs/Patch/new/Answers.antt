-- `patch::Patch::new` meets its contract: the derived default is the patch of zeros. Assumes nothing.
use Rattle.patch.proofs.Defaults.{patch_of_zeros}
use Rattle.patch.proofs.Patch.new.Goals as goal

pub returns : goal.returns
returns c = patch_of_zeros c.default.result c.default.ensures

-- `single::fits` meets its contract. Assumes nothing.
use Rattle.single.specs.Single.{single_fits}
use Rattle.single.proofs.fits.Goals as goal

pub returns : goal.returns
unfolding single_fits
returns c = rw c.patch_fits.ensures

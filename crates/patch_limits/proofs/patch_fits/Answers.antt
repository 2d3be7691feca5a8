-- `patch_limits::patch_fits` meets its contract. A patch fits where its parts do. Assumes nothing.
use Rattle.patch_limits.proofs.Within.{patch_fits_lem}
use Rattle.patch_limits.proofs.patch_fits.Goals as goal

pub returns : goal.returns
returns c = cc (patch_fits_lem c.args.p)

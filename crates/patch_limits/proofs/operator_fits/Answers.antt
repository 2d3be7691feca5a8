-- `patch_limits::operator_fits` meets its contract. An operator fits where its parts do. Assumes nothing.
use Rattle.patch_limits.proofs.Within.{operator_fits_lem}
use Rattle.patch_limits.proofs.operator_fits.Goals as goal

pub returns : goal.returns
returns c = cc (operator_fits_lem c.args.o)

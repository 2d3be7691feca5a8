-- `patch_limits::name_fits` meets its contract. The tests are the table's, letter by letter. Assumes nothing.
use mathlib.Core.Path.{sym}
use Rattle.patch_limits.proofs.Within.{name_fits_lem}
use Rattle.patch_limits.proofs.name_fits.Goals as goal

pub returns : goal.returns
returns c = sym (name_fits_lem _)

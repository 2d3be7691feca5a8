-- `patch_limits::check` meets its contract. The number goes by whether the patch fits. Assumes nothing.
use mathlib.Core.Path.{sym, ◌∙◌}
use Rattle.patch.specs.Packed.{check_of}
use Rattle.patch_limits.proofs.check.Goals as goal

pub returns-then-patch_fits : goal.returns-then-patch_fits
unfolding check_of
returns-then-patch_fits c = rw (sym c.patch_fits.ensures ∙ c.if-patch_fits.true)

pub returns-else-patch_fits : goal.returns-else-patch_fits
unfolding check_of
returns-else-patch_fits c = rw (sym c.patch_fits.ensures ∙ c.if-patch_fits.false)

-- `dx_units_inner::fine_factor` meets its contract. Assumes nothing.
use lib.Ieee.{of_bits}
use Rattle.numbers.specs.F32.{decimal}
use Rattle.dx_units_inner.proofs.Conversions.{factor_fine, factor_none, factor_hertz}
use Rattle.dx_units_inner.proofs.fine_factor.Goals as goal
use Rattle.dx_units_inner.proofs.fine_factor.Goals.{else-mode-eq0-via-then-mode-eq0+else-fine-ne0}
use Rattle.dx_units_inner.proofs.fine_factor.Goals.{else-mode-eq0-via-else-mode-eq0}

pub returns-then-fine-ne0 : goal.returns-then-fine-ne0
unfolding decimal of_bits
returns-then-fine-ne0 c = factor_fine c.args.mode c.args.fine c.if-mode-eq0.true c.if-fine-ne0.true

pub returns-else-mode-eq0 : goal.returns-else-mode-eq0
unfolding decimal of_bits
returns-else-mode-eq0 c =
    elim c.else-mode-eq0.branch [
      | else-mode-eq0-via-then-mode-eq0+else-fine-ne0 w ↦
          factor_none c.args.mode c.args.fine w.if-mode-eq0.true w.if-fine-ne0.false
      | else-mode-eq0-via-else-mode-eq0 w ↦ factor_hertz c.args.mode c.args.fine w.if-mode-eq0.false
    ]

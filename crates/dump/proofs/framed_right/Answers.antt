-- `dump::framed_right` meets its contract. Assumes nothing.
use mathlib.Core.Path.{sym, ◌∙◌}
use native.Mathlib.Omega.{arith}
use Rattle.dump.proofs.Places.{framed_is, unframed_is}
use Rattle.dump.proofs.framed_right.Goals as goal

pub returns-then-in_rows : goal.returns-then-in_rows
returns-then-in_rows c =
    framed_is c.args.form (omega arith) c.args.dump.now c.requires c.contains.result
    (sym c.in_rows.ensures ∙ c.if-in_rows.true) c.contains.ensures

pub returns-else-in_rows : goal.returns-else-in_rows
returns-else-in_rows c =
    c.if-in_rows.false
    ∙ unframed_is c.args.form (omega arith) c.args.dump.now c.requires (sym c.in_rows.ensures ∙ c.if-in_rows.false)

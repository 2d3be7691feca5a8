-- `utils::whole_part` meets its contract. Assumes nothing.
use mathlib.Core.Path.{sym, subst}
use lib.Dec.{T}
use Rattle.utils.proofs.Whole.{whole_back_at}
use Rattle.utils.proofs.whole_part.Goals as goal

pub returns-else-integral-lt16777216 : goal.returns-else-integral-lt16777216
returns-else-integral-lt16777216 c =
    let r = c.requires in
    whole_back_at c.args.place c.args.integral (subst T (sym c.well_formed.0.1) tt) r.whole
    c.if-integral-lt16777216.false r.below_max

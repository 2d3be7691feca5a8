-- `units::semitones_to_ratio_lent` meets its contract. Assumes nothing.
use mathlib.Core.Path.{sym, subst}
use lib.Dec.{T}
use lib.Ieee.{of_bits, neg}
use Rattle.numbers.specs.F32.{decimal, minus_decimal}
use Rattle.units.specs.declared.Shifted.{Shifted}
use Rattle.units.specs.Ratio.{within}
use Rattle.units.proofs.Turns.{is_within, handed_on, inside, outside, far_below}
use Rattle.units.proofs.semitones_to_ratio_lent.Goals as goal
use Rattle.units.proofs.semitones_to_ratio_lent.Goals.{else-semitones-via-then-semitones+else-semitones-2}
use Rattle.units.proofs.semitones_to_ratio_lent.Goals.{else-semitones-via-else-semitones}

pub folded-near-requires : goal.folded-near-requires
unfolding of_bits neg decimal minus_decimal
folded-near-requires c =
    is_within 240 c.args.semitones (subst T (sym c.if-semitones.true) tt) (subst T (sym c.if-semitones-2.true) tt)

pub semitones_to_ratio-requires : goal.semitones_to_ratio-requires
semitones_to_ratio-requires c =
    subst (λ (x : Shifted). T (within 120 x.semitones)) (sym c.folded-near.ensures.0)
    (handed_on _ (folded-near-requires c.before))

pub returns-then-semitones-2 : goal.returns-then-semitones-2
returns-then-semitones-2 c =
    inside c.args.high.now c.args.low.now c.args.semitones (folded-near-requires c.before.before.before)
    c.folded-near.ensures.0 c.semitones_to_ratio.ensures

pub returns : goal.returns
unfolding of_bits neg decimal minus_decimal
returns c =
    elim c.else-semitones.branch [
      | else-semitones-via-then-semitones+else-semitones-2 w ↦
          outside c.args.high.now c.args.low.now c.args.semitones w.if-semitones.true w.if-semitones-2.false
      | else-semitones-via-else-semitones w ↦
          far_below c.args.high.now c.args.low.now c.args.semitones w.if-semitones.false
    ]

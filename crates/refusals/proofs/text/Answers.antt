-- `refusals::text` meets its contract. Assumes nothing.
use mathlib.Core.Path.{ap, ◌∙◌}
use native.Mathlib.Omega.{arith}
use lib.ListN.{length}
use Rattle.refusals.specs.Refusals.{letters}
use Rattle.refusals.proofs.Pieces.{then, decimal_size, words_size, told}
use Rattle.refusals.proofs.text.Goals as goal

pub put_number-b-requires : goal.put_number-b-requires
put_number-b-requires c = omega (arith, c.put-a.ensures.place)

pub put-c-requires : goal.put-c-requires
put-c-requires c =
    omega (arith, c.put-a.ensures.place, c.put_number-b.ensures.place, decimal_size c.args.number)

pub put-requires : goal.put-requires
put-requires c =
    let said = c.as_bytes.ensures.value ∙ c.sentence.ensures in
    omega (
      arith,
      ap length said,
      words_size c.args.number,
      c.put-a.ensures.place,
      c.put_number-b.ensures.place,
      c.put-c.ensures.place,
      decimal_size c.args.number,
    )

pub returns : goal.returns
unfolding letters
returns c =
    told _ _ _ _
    (then _ _ _ _ _ _ _ _ c.put-a.ensures
    (then _ _ _ _ _ _ _ _ c.put_number-b.ensures
    (then _ _ _ _ _ _ _ _ c.put-c.ensures (rw (c.as_bytes.ensures.value ∙ c.sentence.ensures) at c.put.ensures))))

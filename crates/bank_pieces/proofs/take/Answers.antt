-- `bank_pieces::take` meets its contract. Assumes nothing.
use mathlib.Core.Path.{sym, ◌∙◌, ap}
use Rattle.bank_pieces.specs.Pieces.{accepted, take_of}
use Rattle.bank_pieces.proofs.Calls.{took_rest}
use Rattle.bank_pieces.proofs.take.Goals as goal

pub returns-then-not-is_possible : goal.returns-then-not-is_possible
unfolding take_of
returns-then-not-is_possible c =
    simp (sym c.is_possible.ensures ∙ c.if-not-is_possible.true)

pub returns-then-receiver-lt6 : goal.returns-then-receiver-lt6
unfolding take_of
returns-then-receiver-lt6 c =
    let yes = sym c.is_possible.ensures ∙ c.if-not-is_possible.false in
    rw yes (ap accepted c.take_first.ensures)

pub returns-then-receiver-lt4102 : goal.returns-then-receiver-lt4102
unfolding take_of
returns-then-receiver-lt4102 c =
    let yes = sym c.is_possible.ensures ∙ c.if-not-is_possible.false in
    rw yes (ap accepted c.take_data.ensures)

pub returns : goal.returns
unfolding take_of
returns c =
    let yes = sym c.is_possible.ensures ∙ c.if-not-is_possible.false in
    rw yes
    (ap accepted (took_rest c.args.receiver c.args.piece.now c.args.patch.now c.if-receiver-lt4102.false
    c.pass_rest.result c.pass_rest.ensures))

-- `refusals::put_number` meets its contract. Assumes nothing.
use borrow.Author.Tests.{lt-ltb, le-ltb}
use Rattle.refusals.specs.Refusals.{decimal}
use Rattle.refusals.proofs.put_number.Goals as goal

pub returns-then-n-lt10 : goal.returns-then-n-lt10
unfolding decimal
returns-then-n-lt10 c = rw (lt-ltb c.args.n 10 c.if-n-lt10.true) (rw c.digit-ones.ensures at c.put.ensures)

pub returns-then-n-lt100 : goal.returns-then-n-lt100
unfolding decimal
returns-then-n-lt100 c =
    rw (le-ltb c.args.n 10 c.if-n-lt10.false, lt-ltb c.args.n 100 c.if-n-lt100.true)
    (rw (c.digit-tens.ensures, c.digit-ones.ensures) at c.put-then-n-lt100.ensures)

pub returns : goal.returns
unfolding decimal
returns c =
    rw (le-ltb c.args.n 10 c.if-n-lt10.false, le-ltb c.args.n 100 c.if-n-lt100.false)
    (rw (c.digit-hundreds.ensures, c.digit-tens.ensures, c.digit-ones.ensures) at c.put-2.ensures)

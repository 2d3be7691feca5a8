-- `units::folded` meets its contract. Assumes nothing.
use lib.Ieee.{of_bits, neg}
use Rattle.numbers.specs.F32.{decimal, minus_decimal}
use Rattle.units.proofs.Turns.{lessened, raised_up, as_it_is, loops_end}
use Rattle.units.proofs.folded.Goals as goal

pub returns-then-semitones : goal.returns-then-semitones
unfolding of_bits decimal
returns-then-semitones c =
    loops_end c.args.semitones c.requires (lessened c.args.semitones c.requires c.if-semitones.true)

pub returns-then-semitones-2 : goal.returns-then-semitones-2
unfolding of_bits neg decimal minus_decimal
returns-then-semitones-2 c =
    loops_end c.args.semitones c.requires
    (raised_up c.args.semitones c.if-semitones.false c.if-semitones-2.true)

pub returns : goal.returns
unfolding of_bits neg decimal minus_decimal
returns c =
    loops_end c.args.semitones c.requires
    (as_it_is c.args.semitones c.if-semitones.false c.if-semitones-2.false)

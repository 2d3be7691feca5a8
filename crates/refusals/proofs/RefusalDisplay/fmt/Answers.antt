-- `refusals::Refusal::fmt` meets its contract: what it writes is the text of the refusal. Assumes nothing.
use Rattle.std.proofs.Output.{has_written_of_eq}
use Rattle.refusals.proofs.Pieces.{shown}
use Rattle.refusals.proofs.RefusalDisplay.fmt.Goals as goal

pub returns-clause-writes : goal.returns-clause-writes
returns-clause-writes g c =
    λ plain ok. has_written_of_eq _ _ _ _ _
    (shown c.args.self.now _ _ c.number-number.ensures c.words-words.ensures) (c.write.ensures.writes plain ok)

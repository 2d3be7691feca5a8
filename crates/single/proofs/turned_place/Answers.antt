-- `single::turned_place` meets its contract. Assumes nothing.
use native.Mathlib.Omega.{arith}
use Rattle.single.proofs.Turns.{behind_stays, first_stays, last_turns}
use borrow.Author.Rules.{rules}
use Rattle.single.proofs.turned_place.Goals as goal

pub returns-then-i-ge126 : goal.returns-then-i-ge126
returns-then-i-ge126 c = (behind_stays _ _ (omega arith), search rules)

pub returns-then-within-lt14 : goal.returns-then-within-lt14
returns-then-within-lt14 c = (first_stays _ _ (omega arith) (omega arith), search rules)

pub returns : goal.returns
returns c = (last_turns _ _ (omega arith) (omega arith), omega arith)

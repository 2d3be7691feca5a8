-- `bank::part` meets its contract. Assumes nothing.
use mathlib.Core.Path.{sym}
use Rattle.bank.proofs.Numbers.{sound_slot}
use Rattle.bank.proofs.part.Goals as goal

pub slot_part-requires : goal.slot_part-requires
slot_part-requires c = sound_slot c.args.dump.now c.args.slot (sym c.in_ok-check.ensures)

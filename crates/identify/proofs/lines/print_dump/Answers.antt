-- `identify::lines::print_dump` meets its contract: a dump that is sound has its one length.
use Rattle.std.proofs.Common.{sym}
use Rattle.bank.proofs.Numbers.{sound_length}
use Rattle.identify.proofs.lines.print_dump.Goals as goal

pub print_bank-requires : goal.print_bank-requires
print_bank-requires c = sound_length c.args.dump.now (sym c.in-Ok.ensures)

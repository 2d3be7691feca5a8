-- `dump_writer::header` meets its contract. Assumes nothing.
use native.Mathlib.Omega.{arith}
use Rattle.dump_writer.proofs.Whole.{header_bytes}
use Rattle.dump_writer.proofs.header.Goals as goal

pub returns : goal.returns
returns c =
    header_bytes c.args.form.header _ c.args.channel
    (omega arith)

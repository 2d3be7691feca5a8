-- `bank::slot_part` meets its contract. The part begins 6 bytes and 128 for each slot before. Assumes nothing.
use mathlib.Core.Path.{ap}
use Prim.Native.Nat.{ℕ, ◌+◌, ◌*◌}
use native.Mathlib.Nat.{add-sub_cancel_left, add_comm}
use Rattle.bank.specs.Bank.{slot_of, slot_at}
use Rattle.bank.proofs.slot_part.Goals as goal

pub returns : goal.returns
unfolding slot_of slot_at
returns c =
    let dump = c.args.dump in (
      rw add-sub_cancel_left,
      ap (λ (o : ℕ). (dump.ref_ptr.0, o)) (add_comm (6 + c.args.slot * 128) dump.ref_ptr.1),
    )

-- `utils::line` meets its contract. Assumes nothing.
use Prim.Native.Nat.{◌-◌}
use native.Mathlib.Omega.{arith}
use lib.ListN.{length}
use lib.Ieee.{of_bits}
use Rattle.std.proofs.lemmas.List.{length-take}
use Rattle.utils.proofs.Lookup.{no_entry, at_last, between}
use Rattle.utils.proofs.line.Goals as goal

pub returns-in_default : goal.returns-in_default
unfolding of_bits
returns-in_default c =
    no_entry c.args.table.now c.args.place _ c.f32_as_usize-integral.ensures c.in_default.len_below

pub returns-then-integral-before : goal.returns-then-integral-before
returns-then-integral-before c =
    at_last c.args.table.now c.args.place _ c.f32_as_usize-integral.ensures
    (omega (arith, length-take (length c.args.table.now - 1) c.args.table.now, c.if-integral-before.true))

pub returns : goal.returns
returns c =
    between c.args.table.now c.args.place _ c.f32_as_usize-integral.ensures _ c.whole_part.ensures
    (omega (arith, length-take (length c.args.table.now - 1) c.args.table.now, c.if-integral-before.false))

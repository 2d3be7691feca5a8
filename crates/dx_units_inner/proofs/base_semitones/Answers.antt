-- `dx_units_inner::base_semitones` meets its contract. Assumes nothing.
use Prim.Native.Nat.{◌+◌, ◌*◌, ◌%◌}
use mathlib.Core.Path.{sym, subst}
use native.Mathlib.Omega.{arith}
use borrow.Author.Tests.{le-leb}
use lib.Dec.{T}
use lib.Ieee.{of_bits, in_float}
use Rattle.numbers.specs.F32.{decimal}
use Rattle.dx_units_inner.proofs.Conversions.{base_note, base_hertz}
use Rattle.dx_units_inner.proofs.base_semitones.Goals as goal

pub returns-in-0 : goal.returns-in-0
returns-in-0 c =
    base_note c.args.mode c.args.coarse c.args.fine
    (omega arith)
    c.coarse_semitones.ensures

pub int_to_float-result : goal.int_to_float-result
unfolding in_float
int_to_float-result c =
    subst T (sym (le-leb (c.args.coarse % 4 * 100 + c.args.fine) 16777216 (omega arith))) tt

pub returns-in_default : goal.returns-in_default
unfolding decimal of_bits
returns-in_default c =
    base_hertz c.args.mode c.args.coarse c.args.fine
    (omega arith)

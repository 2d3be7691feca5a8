-- `sine::line` meets its contract. Assumes nothing.
use mathlib.Core.Path.{sym, subst}
use Prim.Native.Nat.{◌*◌, ◌-◌, ◌/◌}
use native.Mathlib.Omega.{arith}
use borrow.Author.Tests.{le-leb}
use lib.Dec.{T}
use lib.Ieee.{of_bits, in_float}
use Rattle.numbers.specs.F32.{decimal}
use Rattle.sine.proofs.Fraction.{line_is}
use Rattle.sine.proofs.Lines.{line_within}
use Rattle.sine.proofs.line.Goals as goal

pub int_to_float-fractional : goal.int_to_float-fractional
unfolding in_float
int_to_float-fractional c =
    let p = c.args.phase in
    subst T (sym (le-leb (p - p / 8388608 * 8388608) 16777216 (omega arith))) tt

pub returns : goal.returns
unfolding decimal of_bits
returns c =
    let q = line_is c.args.pairs.now c.args.phase c.entry-a.ensures.0 c.entry-way.ensures.0 in
    (q, line_within c.args.pairs.now c.args.phase (omega arith) q)

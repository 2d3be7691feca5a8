-- `units::semitones_to_ratio` meets its contract. Assumes nothing.
use mathlib.Core.Path.{sym, subst}
use native.Mathlib.Omega.{arith}
use borrow.Author.Tests.{le-leb}
use lib.Dec.{T}
use lib.Ieee.{of_bits, in_float}
use Rattle.numbers.specs.F32.{decimal}
use Rattle.units.proofs.Bounds.{whole_index, fine_index, entries}
use Rattle.units.proofs.semitones_to_ratio.Goals as goal

pub int_to_float-fractional : goal.int_to_float-fractional
unfolding in_float decimal of_bits
int_to_float-fractional c =
    let whole = c.f32_as_usize-integral in
    let h = whole_index c.args.semitones whole.result whole.ensures c.requires in
    subst T (sym (le-leb whole.result 16777216 (omega arith))) tt

pub offset_bounds-high-integral : goal.offset_bounds-high-integral
unfolding decimal of_bits
offset_bounds-high-integral c =
    let whole = c.f32_as_usize-integral in
    let h = whole_index c.args.semitones whole.result whole.ensures c.requires in
    omega arith

pub bounds-high-integral : goal.bounds-high-integral
unfolding decimal of_bits
bounds-high-integral c =
    let whole = c.f32_as_usize-integral in
    let h = whole_index c.args.semitones whole.result whole.ensures c.requires in
    omega arith

pub offset_bounds-low-fine : goal.offset_bounds-low-fine
unfolding decimal of_bits
offset_bounds-low-fine c =
    let whole = c.f32_as_usize-integral in
    let fine = c.f32_as_usize-fine in
    let h = fine_index c.args.semitones whole.result whole.ensures fine.result fine.ensures c.requires in
    omega arith

pub bounds-low-fine : goal.bounds-low-fine
unfolding decimal of_bits
bounds-low-fine c =
    let whole = c.f32_as_usize-integral in
    let fine = c.f32_as_usize-fine in
    let h = fine_index c.args.semitones whole.result whole.ensures fine.result fine.ensures c.requires in
    omega arith

pub returns : goal.returns
unfolding decimal of_bits
returns c =
    entries c.args.semitones c.f32_as_usize-integral.result c.f32_as_usize-integral.ensures
    c.f32_as_usize-fine.result
    c.f32_as_usize-fine.ensures
    c.args.high.now c.args.low.now

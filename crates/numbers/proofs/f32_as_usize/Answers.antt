-- `numbers::f32_as_usize` meets its contract. Assumes nothing.
use Rattle.std.proofs.Common.{T, sym, subst}
use lib.Ieee.{of_bits, neg}
use Rattle.numbers.proofs.Views.{at_least, not_at_least, not_under, not_above_neg}
use Rattle.numbers.proofs.Casts.{too_large, negative, at_least_no_nan, neither_unsigned}
use Rattle.numbers.proofs.f32_as_usize.Goals as goal

pub truncating_f32_to_u64-requires : goal.truncating_f32_to_u64-requires
unfolding of_bits neg
truncating_f32_to_u64-requires c =
    record { lower_bound = subst T (sym c.if-x-2.true) tt; upper_bound = subst T (sym c.if-x.true) tt }

pub returns-then-x : goal.returns-then-x
unfolding of_bits neg
returns-then-x c =
    let x = c.args.x in
    sym (negative 64 0 x (not_above_neg 0 x c.if-x-2.false))

pub returns-then-x-3 : goal.returns-then-x-3
unfolding of_bits
returns-then-x-3 c =
    let x = c.args.x in
    sym (too_large 64 x (not_under 64 x c.if-x.false) (at_least_no_nan 64 x (at_least 64 x c.if-x-3.true)))

pub returns : goal.returns
unfolding of_bits
returns c =
    let x = c.args.x in
    sym (neither_unsigned 64 64 x (not_under 64 x c.if-x.false) (not_at_least 64 x c.if-x-3.false))

-- `numbers::f32_as_u32` meets its contract. Assumes nothing.
use Rattle.std.proofs.Common.{◌≡◌, T, sym, ◌∙◌, subst, arith}
use lib.Ieee.{of_bits, neg, to_unsigned}
use lib.Ieee.Casts.{to_unsigned-lt}
use Rattle.numbers.proofs.Views.{at_least, not_at_least, under, not_under, not_above_neg}
use Rattle.numbers.proofs.Casts.{fast_in, at_least_no_nan, too_large, narrows, negative, small_enough}
use Rattle.numbers.proofs.f32_as_u32.Goals as goal

pub float_to_int-result : goal.float_to_int-result
unfolding of_bits
float_to_int-result c =
    let x = c.args.x in
    fast_in x (subst T (sym c.well_formed.0.1) tt) (at_least 23 x c.if-x.true)
    (under 32 x c.if-x-2.true)

pub returns-then-x : goal.returns-then-x
unfolding of_bits
returns-then-x c =
    let x = c.args.x in
    sym (too_large 32 x (not_under 32 x c.if-x-2.false) (at_least_no_nan 23 x (at_least 23 x c.if-x.true)))

pub truncating_f32_to_u64-requires : goal.truncating_f32_to_u64-requires
unfolding of_bits neg
truncating_f32_to_u64-requires c =
    let x = c.args.x in
    record {
      lower_bound = subst T (sym c.if-x-3.true) tt;
      upper_bound = small_enough 23 64 x (omega arith) (not_at_least 23 x c.if-x.false) c.if-x-3.true;
    }

same : (c : goal.After-truncating_f32_to_u64)
    → c.truncating_f32_to_u64.result ≡ to_unsigned 32 c.args.x
unfolding of_bits
same c =
    let x = c.args.x in
    c.truncating_f32_to_u64.ensures ∙ narrows 23 64 32 x (omega arith) (omega arith)
    (not_at_least 23 x c.if-x.false)

pub overflow_cast-result : goal.overflow_cast-result
overflow_cast-result c =
    omega (arith, same c, to_unsigned-lt 32 c.args.x)

pub returns-then-x-3 : goal.returns-then-x-3
returns-then-x-3 c = same c

pub returns : goal.returns
unfolding of_bits neg
returns c =
    let x = c.args.x in
    sym (negative 32 0 x (not_above_neg 0 x c.if-x-3.false))

-- `numbers::f32_as_i32` meets its contract. Assumes nothing.
use Rattle.std.proofs.Common.{◌≡◌, ℤ, sym, ap, ◌∙◌, subst, arith, w32, w64, SFits, to_z, of_z}
use lib.Ieee.{of_bits, neg, to_signed}
use lib.Ieee.Casts.{to_signed_in}
use mir.ValLaws.{to_z-of_z}
use Rattle.numbers.proofs.Views.{at_least, not_at_least, under, not_under, at_least_neg, not_at_least_neg}
use Rattle.numbers.proofs.Casts.{narrows_signed, too_low, too_high, neither, low_wider, high_wider}
use Rattle.numbers.proofs.f32_as_i32.Goals as goal

pub truncating_f32_to_i64-requires : goal.truncating_f32_to_i64-requires
unfolding of_bits neg
truncating_f32_to_i64-requires c =
    let x = c.args.x in
    record {
      lower_bound = low_wider 31 63 x (omega arith) (at_least_neg 31 x c.if-x-2.true);
      upper_bound = high_wider 31 63 x (omega arith) (under 31 x c.if-x.true);
    }

-- the call's result, read back from its 64 bits
same : (c : goal.After-truncating_f32_to_i64)
    → to_z w64 (of_z w64 c.truncating_f32_to_i64.result) ≡ to_signed 31 c.args.x
unfolding of_bits neg
same c =
    let x = c.args.x in
    to_z-of_z w64 c.truncating_f32_to_i64.result
    (record { sfits = c.truncating_f32_to_i64.type_inv }) ∙ c.truncating_f32_to_i64.ensures
    ∙ narrows_signed 31 63 x (omega arith) (under 31 x c.if-x.true)
    (at_least_neg 31 x c.if-x-2.true)

pub overflow_cast-result : goal.overflow_cast-result
overflow_cast-result c =
    subst (SFits w32) (sym (same c)) (record { sfits = to_signed_in 31 c.args.x })

pub returns-then-x-2 : goal.returns-then-x-2
returns-then-x-2 c =
    ap (λ (z : ℤ). to_z w32 (of_z w32 z)) (same c)
    ∙ to_z-of_z w32 (to_signed 31 c.args.x) (record { sfits = to_signed_in 31 c.args.x })

pub returns-then-x : goal.returns-then-x
unfolding of_bits neg
returns-then-x c =
    let x = c.args.x in
    sym (too_low 31 x (under 31 x c.if-x.true) (not_at_least_neg 31 x c.if-x-2.false))

pub returns-then-x-3 : goal.returns-then-x-3
unfolding of_bits
returns-then-x-3 c = let x = c.args.x in sym (too_high 31 x (at_least 31 x c.if-x-3.true))

pub returns : goal.returns
unfolding of_bits
returns c =
    let x = c.args.x in
    sym (neither 31 x (not_under 31 x c.if-x.false) (not_at_least 31 x c.if-x-3.false))

-- `sine::turned` meets its contract. Assumes nothing.
use mathlib.Core.Path.{sym, ap, subst, ◌∙◌}
use Prim.Native.Nat.{◌%◌}
use lib.Dec.{T}
use lib.IntN.{ℤ, nat_abs}
use lib.Signed.{non_neg}
use lib.Ieee.{of_bits, div, round, binary32}
use lib.Ieee.Fits.{mul-fits}
use mir.Syntax.{w64}
use mir.Val.{Fits}
use Rattle.numbers.specs.F32.{◌⊕◌, ◌⊗◌, decimal}
use Rattle.numbers.proofs.Casts.{widens}
use Rattle.sine.specs.Sine.{steps_of}
use Rattle.sine.proofs.Near.{lift}
use Rattle.sine.proofs.Turns.{turn, near_turned}
use Rattle.sine.proofs.turned.Goals as goal

pub float_to_float-turns : goal.float_to_float-turns
unfolding of_bits
float_to_float-turns c =
    let pm = c.args.pm in
    widens ((pm ⊕ lift) ⊗ turn) (mul-fits binary32 (pm ⊕ lift) turn)
    (near_turned pm (sym c.is_near.ensures ∙ c.if-is_near.true)).no_nan

pub float_to_int-turns : goal.float_to_int-turns
unfolding of_bits
float_to_int-turns c = (near_turned c.args.pm (sym c.is_near.ensures ∙ c.if-is_near.true)).accepted

pub overflow_cast-result : goal.overflow_cast-result
unfolding of_bits
overflow_cast-result c =
    let t = near_turned c.args.pm (sym c.is_near.ensures ∙ c.if-is_near.true) in
    subst (λ (z : ℤ). T (non_neg z) × Fits w64 (nat_abs z)) (sym t.cast) (tt, record { fits = t.small })

pub returns-then-is_near : goal.returns-then-is_near
unfolding steps_of decimal of_bits div round
returns-then-is_near c =
    ap (λ (z : ℤ). nat_abs z % 4294967296) (near_turned c.args.pm (sym c.is_near.ensures ∙ c.if-is_near.true)).cast

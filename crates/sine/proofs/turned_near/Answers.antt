-- `sine::turned_near` meets its contract. Assumes nothing.
use mathlib.Core.Path.{sym, ap, subst, ◌∙◌}
use Prim.Native.Nat.{◌*◌, ◌%◌}
use native.Mathlib.Omega.{arith}
use lib.Dec.{T}
use lib.IntN.{ℤ, nat_abs}
use lib.Signed.{non_neg}
use lib.Ieee.{of_bits, div, round, binary32}
use lib.Ieee.Fits.{mul-fits}
use mir.Syntax.{w32}
use mir.Val.{Fits}
use Rattle.numbers.specs.F32.{◌⊕◌, ◌⊗◌, decimal}
use Rattle.numbers.proofs.Casts.{widens}
use Rattle.sine.specs.Sine.{steps_of}
use Rattle.sine.proofs.Near.{lift}
use Rattle.sine.proofs.Halves.{half, near_halved}
use Rattle.sine.proofs.turned_near.Goals as goal

pub float_to_float-halves : goal.float_to_float-halves
unfolding of_bits
float_to_float-halves c =
    let pm = c.args.pm in
    widens ((pm ⊕ lift) ⊗ half) (mul-fits binary32 (pm ⊕ lift) half) (near_halved pm c.requires).no_nan

pub float_to_int-halves : goal.float_to_int-halves
unfolding of_bits
float_to_int-halves c = (near_halved c.args.pm c.requires).accepted

pub overflow_cast-result : goal.overflow_cast-result
unfolding of_bits
overflow_cast-result c =
    let t = near_halved c.args.pm c.requires in
    subst (λ (z : ℤ). T (non_neg z) × Fits w32 (nat_abs z)) (sym t.cast)
    (tt, record { fits = let s = t.small in omega arith })

pub returns : goal.returns
unfolding steps_of decimal of_bits div round
returns c =
    let t = near_halved c.args.pm c.requires in
    ap (λ (z : ℤ). nat_abs z * 128 % 4294967296) t.cast ∙ (let w = t.twice in omega arith)

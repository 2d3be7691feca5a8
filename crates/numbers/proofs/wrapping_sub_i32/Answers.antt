-- `numbers::wrapping_sub_i32` meets its contract. Assumes nothing.
use Rattle.std.proofs.Common.{◌≡◌, ℕ, ◌+◌, ◌-◌, ◌%◌, ap, arith, w32, to_z, of_z}
use mir.ValLaws.{of_z_fits}
use Rattle.numbers.specs.Words.{difference_signed}
use Rattle.numbers.proofs.wrapping_sub_i32.Goals as goal

pub returns : goal.returns
unfolding difference_signed
returns c =
    let m = of_z w32 c.args.a in
    let n = of_z w32 c.args.b in
    let e : m + (4294967296 - n) ≡ m + 4294967296 - n = omega (arith, (of_z_fits w32 c.args.b c.ranges.b).fits) in
    ap (λ (k : ℕ). to_z w32 (k % 4294967296)) e

-- `single::from_packed` meets its contract: what is unpacked is written. Assumes nothing.
use mathlib.Core.Path.{◌≡◌, sym}
use borrow.Author.Rules.{rules}
use Rattle.std.specs.Prelude.{Ok, Err}
use Rattle.patch.specs.Form.{zero_patch}
use Rattle.patch.specs.Packed.{unpack_of}
use Rattle.single.specs.Single.{from_packed_of}
use Rattle.single.proofs.from_packed.Goals as goal

pub returns-in_err-patch : goal.returns-in_err-patch
unfolding from_packed_of
returns-in_err-patch c =
    let short = c.in_err-patch.field-0.0 in
    let u : unpack_of zero_patch c.args.packed.now ≡ Err short = rw c.new.ensures at (sym c.in_err-patch.ensures) in
    let r : c.from_residual.result ≡ Err short.refusal = search rules in
    rw u r

pub returns : goal.returns
unfolding from_packed_of
returns c =
    let p = c.in_ok-patch.patch in
    let u : unpack_of zero_patch c.args.packed.now ≡ Ok p = rw c.new.ensures at (sym c.in_ok-patch.ensures) in
    rw u c.write.ensures

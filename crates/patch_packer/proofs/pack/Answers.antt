-- `patch_packer::pack` meets its contract. The check decides. Assumes nothing.
use mathlib.Core.Path.{◌≡◌, sym, ◌∙◌, ap}
use mathlib.Core.List.{List}
use Prim.Native.Nat.{ℕ}
use borrow.Author.Rules.{rules}
use Rattle.std.specs.Prelude.{Ok, Err}
use Rattle.patch_packer.proofs.Checked.{checked_fits, packed_when, refused_when}
use Rattle.patch_packer.proofs.pack.Goals as goal

pub returns-in_err-check : goal.returns-in_err-check
returns-in_err-check c =
    let e = c.in_err-check.field-0.0 in
    let r : c.from_residual.result ≡ Err e = search rules in
    r ∙ sym (refused_when c.args.patch e (sym c.in_err-check.ensures))

pub pack_whole-requires : goal.pack_whole-requires
pack_whole-requires c = checked_fits c.args.patch _ (sym c.in_ok-check.ensures)

pub returns : goal.returns
returns c =
    ap (λ (b : List ℕ). Ok b) c.pack_whole.ensures
    ∙ sym (packed_when c.args.patch (checked_fits c.args.patch _ (sym c.in_ok-check.ensures)))

-- `single::parse` meets its contract. The dump's check decides, then the limits. Assumes nothing.
use mathlib.Core.Path.{◌≡◌, sym, ◌∙◌, ap}
use mathlib.Core.List.{List}
use Prim.Native.Nat.{ℕ}
use borrow.Author.Rules.{rules}
use Rattle.std.specs.Prelude.{Result, Err}
use Rattle.refusals.specs.declared.Refusal.{Refusal}
use Rattle.dump.specs.declared.Form.{Form}
use Rattle.dump.specs.Dump.{dump_channel}
use Rattle.single.specs.Single.{single_form}
use Rattle.single.proofs.Answers.{opened_length, dump_refused, patch_refused, patch_read}
use Rattle.single.proofs.parse.Goals as goal

-- the channel that is told, of this form
told_of : (dump : List ℕ) (r : Result ℕ Refusal) (f : Form) → r ≡ dump_channel f dump → f ≡ single_form
    → r ≡ dump_channel single_form dump
told_of dump r f e is = e ∙ ap (λ (g : Form). dump_channel g dump) is

pub returns-in_err-channel : goal.returns-in_err-channel
returns-in_err-channel c =
    let e = c.in_err-channel.field-0.0 in
    let r : c.from_residual.result ≡ Err e = search rules in
    r
    ∙ sym
    (dump_refused c.args.dump.now e (told_of c.args.dump.now _ _ c.in_err-channel.ensures c.single_form.ensures))

pub patch_in-patch-requires : goal.patch_in-patch-requires
patch_in-patch-requires c =
    let o = told_of c.args.dump.now _ _ c.in_ok-channel.ensures c.single_form.ensures in
    opened_length c.args.dump.now c.in_ok-channel.channel o

pub returns-then-not-fits : goal.returns-then-not-fits
returns-then-not-fits c =
    let o = told_of c.args.dump.now _ _ c.in_ok-channel.ensures c.single_form.ensures in
    patch_refused c.args.dump.now c.in_ok-channel.channel o _ c.patch_in-patch.ensures _ c.fits.ensures
    c.if-not-fits.true

pub returns : goal.returns
returns c =
    let o = told_of c.args.dump.now _ _ c.in_ok-channel.ensures c.single_form.ensures in
    patch_read c.args.dump.now c.in_ok-channel.channel o _ c.patch_in-patch.ensures _ c.fits.ensures c.if-not-fits.false

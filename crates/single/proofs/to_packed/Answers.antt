-- `single::to_packed` meets its contract: what is read is packed, and never refused there. Assumes nothing.
use mathlib.Core.Path.{◌≡◌, sym, ◌∙◌}
use borrow.Author.Rules.{rules}
use Rattle.std.specs.Prelude.{Err}
use Rattle.single.specs.Single.{to_packed_of}
use Rattle.single.proofs.Answers.{packs}
use Rattle.single.proofs.to_packed.Goals as goal

pub returns-in_err-read : goal.returns-in_err-read
unfolding to_packed_of
returns-in_err-read c =
    let r : c.from_residual.result ≡ Err c.in_err-read.field-0.0 = search rules in
    rw (sym c.in_err-read.ensures) r

pub returns-in_err-bytes : goal.returns-in_err-bytes
returns-in_err-bytes c =
    let z = c.in_err-bytes.ensures ∙ packs c.args.dump.now c.in_ok-read.read (sym c.in_ok-read.ensures) in
    cc

pub returns : goal.returns
unfolding to_packed_of
returns c =
    let z = c.in_ok-bytes.ensures ∙ packs c.args.dump.now c.in_ok-read.read (sym c.in_ok-read.ensures) in
    rw (sym c.in_ok-read.ensures) (cc)

-- `single::write_whole` meets its contract: the patch's numbers, turned, are the data. Assumes nothing.
use mathlib.Core.Path.{◌≡◌, ◌∙◌, ap, ap₂}
use mathlib.Core.List.{List}
use Prim.Native.Nat.{ℕ}
use native.Mathlib.Omega.{arith}
use lib.ListN.{length}
use Rattle.dump.specs.declared.Form.{Form}
use Rattle.dump_writer.specs.Written.{written_of}
use Rattle.single.specs.Single.{single_form, data_bytes, turned}
use Rattle.single.proofs.Orders.{data_of_numbers}
use borrow.Author.Rules.{rules}
use Rattle.single.proofs.write_whole.Goals as goal

pub write-requires : goal.write-requires
unfolding single_form
write-requires c =
    let count : c.single_form.result.count ≡ 155 =
    ap (λ (f : Form). f.count) c.single_form.ensures in
    let long : length c.turned-bytes.result ≡ 155 = search rules in
    (omega (arith, count, long), omega (arith, count))

pub returns : goal.returns
returns c =
    let bytes-are : c.turned-bytes.result ≡ data_bytes c.args.p =
    c.turned-bytes.ensures ∙ ap (turned 1) c.numbers-numbers.ensures ∙ data_of_numbers c.args.p in
    c.write.ensures
    ∙ ap₂ (λ (f : Form) (b : List ℕ). written_of f c.args.channel b) c.single_form.ensures
    bytes-are

-- `patch::unpack_stages` meets its contract. Each byte is read by `whole` and takes the place of a zero. Assumes
-- nothing.
use native.Mathlib.Nat.{add-zero}
use Rattle.patch.specs.Packed.{bits_in, read_in}
use Rattle.patch.specs.Form.{operator_with, envelope_with}
use Rattle.patch.specs.Layout.{later, envelope_field}
use Rattle.patch.proofs.Defaults.{zero_operator}
use Rattle.patch.proofs.unpack_stages.Goals as goal

pub returns : goal.returns
unfolding operator_with envelope_with read_in bits_in later envelope_field
returns c =
    rw (
      zero_operator c.default-o.result c.default-o.ensures,
      c.whole.ensures,
      c.whole-2.ensures,
      c.whole-3.ensures,
      c.whole-4.ensures,
      c.whole-5.ensures,
      c.whole-6.ensures,
      c.whole-7.ensures,
      c.whole-8.ensures,
      add-zero,
    )

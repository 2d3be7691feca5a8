-- `patch::unpack_operator` meets its contract. The envelope and the scaling are unpacked by their own functions, every
-- other field is read by `whole` or `field`. Assumes nothing.
use Rattle.patch.specs.Packed.{bits_in, read_in}
use Rattle.patch.specs.Form.{operator_with}
use Rattle.patch.specs.Layout.{later, operator_field}
use Rattle.patch.proofs.unpack_operator.Goals as goal

pub returns : goal.returns
unfolding operator_with read_in bits_in later operator_field
returns c =
    rw (
      c.field-6.ensures,
      c.whole-2.ensures,
      c.field-5.ensures,
      c.field-4.ensures,
      c.whole.ensures,
      c.field-3.ensures,
      c.field-2.ensures,
      c.field.ensures,
      c.unpack_scaling-scaling.ensures,
      c.unpack_stages-o.ensures,
    )

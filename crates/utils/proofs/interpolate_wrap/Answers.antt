-- `utils::interpolate_wrap` meets its contract. Assumes nothing.
use Rattle.numbers.proofs.Signed.{back}
use Rattle.utils.proofs.Lookup.{wrapped}
use Rattle.utils.proofs.interpolate_wrap.Goals as goal

pub returns : goal.returns
returns c =
    let n = c.f32_as_i32 in
    wrapped c.args.table.now c.args.index c.args.size n.ensures (back n.result n.type_inv)
    c.i32_as_f32-whole.ensures
    c.interpolate.ensures

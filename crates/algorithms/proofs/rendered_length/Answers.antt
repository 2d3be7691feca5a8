-- `algorithms::rendered_length` meets its contract. Assumes nothing.
use mathlib.Core.Path.{sym}
use borrow.Author.Tests.{eq-eqb, ne_eqb}
use Rattle.algorithms.proofs.Lengths.{some_rendered}
use Rattle.algorithms.proofs.rendered_length.Goals as goal
use Rattle.algorithms.proofs.rendered_length.Goals.{else-n-eq1-via-then-n-eq1+else-is_originless}
use Rattle.algorithms.proofs.rendered_length.Goals.{else-n-eq1-via-else-n-eq1}

pub returns-then-is_originless : goal.returns-then-is_originless
returns-then-is_originless c =
    let s = some_rendered c.args.operators c.args.os.now c.requires _ c.call_length-n.ensures in
    sym (rw (eq-eqb c.call_length-n.result 1 c.if-n-eq1.true, ← c.is_originless.ensures, c.if-is_originless.true) at s)

pub returns-else-n-eq1 : goal.returns-else-n-eq1
returns-else-n-eq1 c =
    let s = some_rendered c.args.operators c.args.os.now c.requires _ c.call_length-n.ensures in
    elim c.else-n-eq1.branch [
      | else-n-eq1-via-then-n-eq1+else-is_originless w ↦ sym (rw (
        eq-eqb c.call_length-n.result 1 w.if-n-eq1.true,
        ←
            w.is_originless.ensures,
        w.if-is_originless.false,
      ) at s)
      | else-n-eq1-via-else-n-eq1 w ↦ sym (rw (ne_eqb c.call_length-n.result 1 w.if-n-eq1.false) at s)
    ]

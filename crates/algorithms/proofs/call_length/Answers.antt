-- `algorithms::call_length` meets its contract. Assumes nothing.
use mathlib.Core.Path.{sym, ◌∙◌}
use native.Mathlib.Omega.{arith}
use borrow.Author.Tests.{le-leb, lt-leb}
use Rattle.algorithms.proofs.Lengths.{chained_range, few_one, dry_at, fed_at}
use Rattle.algorithms.proofs.call_length.Goals as goal
use Rattle.algorithms.proofs.call_length.Goals.{then-operators-ne6-via-then-operators-ne6}
use Rattle.algorithms.proofs.call_length.Goals.{then-operators-ne6-via-else-operators-ne6+then-source_of-ne-FEEDBACK}
use Rattle.algorithms.proofs.call_length.Goals.{else-n-le3-via-then-n-le3+then-is_adding+else-is_flagged}
use Rattle.algorithms.proofs.call_length.Goals.{else-n-le3-via-then-n-le3+else-is_adding, else-n-le3-via-else-n-le3}

pub returns-then-operators-ne6 : goal.returns-then-operators-ne6
returns-then-operators-ne6 c =
    elim c.then-operators-ne6.branch [
      | then-operators-ne6-via-then-operators-ne6 w ↦ few_one _ _ w.if-operators-ne6.true
      | then-operators-ne6-via-else-operators-ne6+then-source_of-ne-FEEDBACK w ↦ dry_at _ c.requires _ (λ e.
          w.if-source_of-ne-FEEDBACK.true (w.source_of.ensures ∙ e))
    ]

pub overflow_sub-last : goal.overflow_sub-last
overflow_sub-last c = omega (arith, chained_range c.args.os.now c.requires)

pub bounds-os-n : goal.bounds-os-n
bounds-os-n c = omega (arith, chained_range c.args.os.now c.requires)

pub returns-then-is_flagged : goal.returns-then-is_flagged
returns-then-is_flagged c =
    let f = fed_at c.args.os.now c.requires c.args.operators c.if-operators-ne6.false (sym c.source_of.ensures ∙
    c.if-source_of-ne-FEEDBACK.false) in
    sym (rw (
      ← c.chain-n.ensures,
      le-leb c.chain-n.result 3 c.if-n-le3.true,
      ← c.is_adding.ensures,
      c.if-is_adding.true,
      ← c.is_flagged.ensures,
      c.if-is_flagged.true,
    ) at f)

pub returns-else-n-le3 : goal.returns-else-n-le3
returns-else-n-le3 c =
    let f = fed_at c.args.os.now c.requires c.args.operators c.if-operators-ne6.false (sym c.source_of.ensures ∙
    c.if-source_of-ne-FEEDBACK.false) in
    elim c.else-n-le3.branch [
      | else-n-le3-via-then-n-le3+then-is_adding+else-is_flagged w ↦ sym (rw (
        ← c.chain-n.ensures,
        le-leb
            c.chain-n.result 3 w.if-n-le3.true,
        ← w.is_adding.ensures,
        w.if-is_adding.true,
        ← w.is_flagged.ensures,
        w.if-is_flagged.false,
      ) at f)
      | else-n-le3-via-then-n-le3+else-is_adding w ↦ sym (rw (
        ← c.chain-n.ensures,
        le-leb c.chain-n.result 3
            w.if-n-le3.true,
        ← w.is_adding.ensures,
        w.if-is_adding.false,
      ) at f)
      | else-n-le3-via-else-n-le3 w ↦ sym (rw (← c.chain-n.ensures, lt-leb c.chain-n.result 3 w.if-n-le3.false) at f)
    ]

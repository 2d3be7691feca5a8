-- `plan_text::push_planned` meets its contract. Assumes nothing.
use mathlib.Core.Path.{◌≡◌, ap}
use mathlib.Core.List.{[]}
use native.Mathlib.Omega.{arith}
use lib.ListN.{length, take, length-take}
use Rattle.plan_text.specs.Text.{planned_text, row_text, count_text, calls_text}
use Rattle.plan_text.proofs.Pieces.{longer, three_pieces, row_size, count_size}
use Rattle.plan_text.proofs.push_planned.Goals as goal

pub push_count-requires : goal.push_count-requires
push_count-requires c =
    let few = (rw c.in-Ok.is at c.requires).1 in
    let n : length c.args.text.now.bytes ≡ 0 = ap length c.requires.0 in
    omega (arith, longer c.args.text.now.bytes _ c.push_row.ensures, row_size c.args.bytes.now, few.0)

pub push_calls-requires : goal.push_calls-requires
push_calls-requires c =
    let few = (rw c.in-Ok.is at c.requires).1 in
    let n : length c.args.text.now.bytes ≡ 0 = ap length c.requires.0 in
    omega (
      arith,
      longer c.args.text.now.bytes _ c.push_row.ensures,
      row_size c.args.bytes.now,
      longer c.push_row.new.text.bytes _ c.push_count.ensures,
      count_size c.in-Ok.plan.count,
      length-take c.in-Ok.plan.count c.in-Ok.plan.calls,
      few.0,
      few.1,
    )

pub returns-in-Ok : goal.returns-in-Ok
unfolding planned_text
returns-in-Ok c =
    rw c.in-Ok.is
    (three_pieces [] (row_text c.args.bytes.now) (count_text c.in-Ok.plan.count)
    (calls_text (take c.in-Ok.plan.count c.in-Ok.plan.calls))
    (rw c.requires.0 at c.push_row.ensures) c.push_count.ensures c.push_calls.ensures)

pub returns-in-Err : goal.returns-in-Err
unfolding planned_text
returns-in-Err c = rw c.in-Err.is (rw c.requires.0 at c.push_refusal.ensures)

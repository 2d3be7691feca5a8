-- `plan_text::print` meets its contract. Assumes nothing.
use mathlib.Core.Path.{◌≡◌, ap, ◌∙◌}
use native.Mathlib.Omega.{arith}
use lib.ListN.{length}
use Rattle.std.proofs.Common.{rules}
use Rattle.algorithms.specs.Plan.{planned}
use Rattle.plan_text.specs.Text.{plan_text, planned_text}
use Rattle.plan_text.proofs.Pieces.{stored, text_size, few}
use Rattle.plan_text.proofs.print.Goals as goal

pub push_planned-requires : goal.push_planned-requires
push_planned-requires c = (
  c.new-text.ensures,
  few c.args.bytes.now _ (c.compile_row-planned.ensures ∙ ap (planned
      (length c.args.bytes.now)) c.six_bytes.ensures),
)

pub returns : goal.returns
unfolding plan_text
returns c =
    let e = c.compile_row-planned.ensures ∙ ap (planned (length c.args.bytes.now)) c.six_bytes.ensures in
    let t : c.push_planned.new.text.bytes ≡ plan_text c.args.bytes.now = c.push_planned.ensures ∙ ap (planned_text
    c.args.bytes.now) e in
    let s = text_size c.args.bytes.now in
    let l : length c.args.out.now ≡ 160 = search rules in
    let n : c.len-n.result ≡ length (plan_text c.args.bytes.now) = c.len-n.ensures.value ∙ ap length t in
    record {
      next_place = omega arith;
      buffer = stored c.args.out.now (plan_text c.args.bytes.now) c.len-n.result
          (c.copy_from_slice.ensures.after ∙ c.as_bytes.ensures.value ∙ c.deref.ensures.0 ∙ t) n (omega arith);
    }

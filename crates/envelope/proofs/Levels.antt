-- The levels that number 6 accepts stand in the chart. Assumes nothing.
use mathlib.Core.Path.{◌≡◌}
use mathlib.Core.Bool.{true, and-eq-true_iff}
use mathlib.Core.List.{List}
use Prim.Native.Nat.{ℕ}
use lib.Dec.{leb}
use lib.ListN.{get_or}
use Rattle.patch.specs.Layout.{Rate, envelope_field, stages}
use Rattle.patch.specs.Packed.{stages_fit}
use Rattle.patch.proofs.Each.{each_within}
use Rattle.envelope_stages.specs.Stages.{OnChart}
use Rattle.envelope.specs.Answers.{operator_fits, pitch_fits}

pub levels_on_chart : (rate level : List ℕ) (global_level : ℕ)
    → operator_fits rate level global_level ≡ true → OnChart level
unfolding operator_fits pitch_fits stages_fit stages envelope_field
levels_on_chart rate level global_level h =
    let a = ((and-eq-true_iff (pitch_fits rate level) (leb global_level 127)).0 h).0 in
    let b = ((and-eq-true_iff (stages_fit rate) (stages_fit level)).0 a).1 in
    let e = each_within (λ i. envelope_field (Rate i)) (λ i. get_or level i 0) stages b in
    (e.0, e.1.0, e.1.1.0, e.1.1.1.0)

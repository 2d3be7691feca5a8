-- `plan_text::push_at` meets its contract. Assumes nothing.
use mathlib.Core.List.{[], ◌∷◌}
use mathlib.Core.Logic.{⊎_elim}
use Rattle.plan_text.specs.Text.{word_at, digit, at_text}
use Rattle.plan_text.proofs.Pieces.{three_pieces, at_other}
use Rattle.plan_text.proofs.push_at.Goals as goal

pub returns-in_default : goal.returns-in_default
returns-in_default c =
    rw (at_other c.args.refusal c.in_default.not-NoRenderer c.in_default.not-UnsetBuffer) c.push_str.ensures.bytes

pub returns-in-NoRenderer : goal.returns-in-NoRenderer
unfolding at_text
returns-in-NoRenderer c =
    let e = three_pieces c.args.text.now.bytes word_at (digit c.in-NoRenderer.at ∷ []) (10 ∷ [])
    c.push_str-in-NoRenderer.ensures.bytes c.push_digit.ensures c.push_str-in-NoRenderer-2.ensures.bytes in
    ⊎_elim (λ i. rw i e) (λ i. rw i e) c.in-NoRenderer.is

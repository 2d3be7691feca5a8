-- A chain of operators over a block: what modulates it, one sample of it, and all of them. Definitions only.
use Rattle.std.specs.Prelude.{ℕ, zero, suc, ◌≡◌, Bool, List, [], ◌∷◌, get_or, length, Float}
use Rattle.std.specs.Float.{nan}
use Rattle.numbers.specs.F32.{decimal}
use Rattle.operator.specs.Sample.{sampled, moved, fed, pushed, mixed}
use Rattle.operator.specs.declared.Feedback.{Feedback}
use Rattle.operator.specs.declared.Lane.{Lane}
use Rattle.operator.specs.declared.Chain.{Chain as Held}

-- what modulates a chain's first operator: nothing, the samples of a buffer, or feedback from its last operator, scaled
pub data Source : Type 0 where
  none : Source
  external : List Float → Source
  feedback : Float → Source

-- the operators of a chain, first to last, with the feedback
pub record Chain : Type 0 where
  pub lanes : List Lane
  pub feedback : Feedback

-- the code's chain, of a number of operators
abbrev pub chain_of : {n : ℕ} → Held n → Chain
chain_of c = record { lanes = c.lanes; feedback = c.feedback }

-- a chain of one operator
abbrev pub alone : Lane → Feedback → Chain
alone l f = record { lanes = l ∷ []; feedback = f }

-- the modulation that goes into sample i
unfoldable pub entered : Source → ℕ → Feedback → Float
entered none i f = decimal 0 0
entered (external modulation) i f = get_or modulation i nan
entered (feedback feedback_scale) i f = fed f feedback_scale

-- the feedback after a sample of the chain
unfoldable pub kept : Source → Feedback → Float → Feedback
kept none f pm = f
kept (external modulation) f pm = f
kept (feedback feedback_scale) f pm = pushed f pm

-- each operator's sample modulates the next
unfoldable pub through : List Float → List Lane → Float → Float
through pairs [] pm = pm
through pairs (l ∷ ls) pm = through pairs ls (sampled pairs l pm)

-- every operator, a sample further
unfoldable pub all_moved : List Lane → List Lane
all_moved [] = []
all_moved (l ∷ ls) = moved l ∷ all_moved ls

module _ (pairs : List Float) (source : Source) where
  -- sample i of the chain
  unfoldable pub heard : ℕ → Chain → Float
  heard i s = through pairs s.lanes (entered source i s.feedback)

  -- the chain after it
  unfoldable pub next : ℕ → Chain → Chain
  next i s = record { lanes = all_moved s.lanes; feedback = kept source s.feedback (heard i s) }

  -- the chain after `size` samples from sample i on
  unfoldable pub ended : ℕ → ℕ → Chain → Chain
  ended zero i s = s
  ended (suc size) i s = ended size (suc i) (next i s)

  -- the samples from i on, where `out` stood there
  unfoldable pub written : Bool → ℕ → Chain → List Float → List Float
  written add i s [] = []
  written add i s (there ∷ out) = mixed add there (heard i s) ∷ written add (suc i) (next i s) out

-- what each renderer promises: the chain s was rendered where `out` stood, and ends as e over `after`
pub record Rendered (pairs : List Float) (source : Source) (add : Bool)
    (s : Chain) (out : List Float) (e : Chain) (after : List Float) : Type 0 where
  pub samples : after ≡ written pairs source add 0 s out
  pub chain : e ≡ ended pairs source (length out) 0 s

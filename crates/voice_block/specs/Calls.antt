-- What the calls of a plan make of a block's quarters, of the operators and of the feedback: `ran`, at the end, is what
-- the crate promises. Definitions only.
use Rattle.std.specs.Prelude.{ℕ, zero, suc, ◌+◌, ◌/◌, ◌≤◌, ◌<◌, ◌≡◌, cond, List, [], ◌∷◌, eqb}
use Rattle.std.specs.Prelude.{length, get_or, set, Float}
use Rattle.std.specs.Float.{nan}
use Rattle.algorithms.specs.Plan.{no_call, reading}
use Rattle.algorithms.specs.declared.Call.{Call}
use Rattle.algorithms.specs.declared.Plan.{Plan}
use Rattle.operator.specs.Sample.{lane_of, operator_of, ramp_scale, feedback_scale_of}
use Rattle.operator.specs.Chain.{Source, Chain, written, ended}
use Rattle.operator.specs.Chain.Source.{none, external, feedback}
use Rattle.operator.specs.declared.Operator.{Operator}
use Rattle.operator.specs.declared.Lane.{Lane}
use Rattle.voice_block.specs.Quarters.{split, joined}
use Rattle.voice_block.specs.declared.Lent.{Lent}
use Rattle.voice_block.specs.declared.Operators.{Operators}

-- ---- a call's operators

-- what stays the same over a block: each operator's step and the amplitude that it goes to, what an amplitude's way is
-- multiplied by for one sample, and what the feedback's sum is multiplied by
pub record Setting : Type 0 where
  pub steps : List ℕ
  pub targets : List Float
  pub ramp : Float
  pub feedback_scale : Float

-- what stands past the last operator: nothing asks for it
abbrev pub no_operator : Operator
no_operator = record { phase = 0; amplitude = nan }

-- operator i, as it enters the block
unfoldable pub lane_at : Setting → List Operator → ℕ → Lane
lane_at g os i = lane_of (get_or os i no_operator) (get_or g.steps i 0) (get_or g.targets i nan) g.ramp

-- n operators from `first` on
unfoldable pub lanes_at : Setting → List Operator → ℕ → ℕ → List Lane
lanes_at g os first zero = []
lanes_at g os first (suc n) = lane_at g os first ∷ lanes_at g os (first + 1) n

unfoldable pub chain_at : Setting → Operators → ℕ → ℕ → Chain
chain_at g v first n = record { lanes = lanes_at g v.operator first n; feedback = v.feedback_state }

-- operator i, as it leaves the block
unfoldable pub put_at : Operators → ℕ → Lane → Operators
put_at v i l = record { operator = set v.operator i (operator_of l); feedback_state = v.feedback_state }

-- the operators of a call, from `first` on
unfoldable pub put_all : Operators → ℕ → List Lane → Operators
put_all v first [] = v
put_all v first (l ∷ ls) = put_all (put_at v first l) (first + 1) ls

unfoldable pub settled : Operators → ℕ → Chain → Operators
settled v first s = record { operator = (put_all v first s.lanes).operator; feedback_state = s.feedback }

-- ---- a call

-- the operators and the feedback, with the quarters
pub record Desk : Type 0 where
  pub operators : Operators
  pub quarters : List (List Float)

abbrev pub desk : ℕ → Operators → List Float → Desk
desk n v block = record { operators = v; quarters = split n 4 block }

-- what modulates a call: a buffer where it reads one, else feedback or nothing
unfoldable pub source_of : Float → Call → List (List Float) → Source
source_of feedback_scale c qs =
    cond (reading c) (external (get_or qs c.input [])) (cond (eqb c.input 3) (feedback feedback_scale) none)

module _ (pairs : List Float) (g : Setting) where
  -- the quarter that a call writes, and the operators after it
  unfoldable pub called : Call → Desk → Desk
  called c d =
      let source = source_of g.feedback_scale c d.quarters in
      let there = get_or d.quarters c.output [] in
      let s = chain_at g d.operators c.first c.n in
      record {
        operators = settled d.operators c.first (ended pairs source (length there) 0 s);
        quarters = set d.quarters c.output (written pairs source c.add 0 s there);
      }

  -- the first k calls of a plan, in order
  unfoldable pub called_up_to : List Call → ℕ → Desk → Desk
  called_up_to cs zero d = d
  called_up_to cs (suc k) d = called (get_or cs k no_call) (called_up_to cs k d)

-- ---- a plan

-- what stays the same over a block of n samples
unfoldable pub setting : List ℕ → List Float → ℕ → ℕ → Setting
setting steps targets amount n = record {
  steps = steps;
  targets = targets;
  ramp = ramp_scale n;
  feedback_scale = feedback_scale_of amount;
}

-- what the code lends to a block's calls
abbrev pub setting_of : Lent → Setting
setting_of l = record {
  steps = l.steps.now;
  targets = l.targets.now;
  ramp = l.ramp;
  feedback_scale = l.feedback_scale;
}

-- the operators, the feedback and all four quarters after a plan, for these steps, targets and amount of feedback
pub record Ran : Type 0 where
  pub operators : Operators
  pub block : List Float

unfoldable pub ran : List Float → Plan → List ℕ → List Float → ℕ → Operators → List Float → Ran
ran pairs plan steps targets amount v block =
    let n = length block / 4 in
    let d = called_up_to pairs (setting steps targets amount n) plan.calls plan.count (desk n v block) in
    record { operators = d.operators; block = joined d.quarters }

-- ---- the plans that can be run: every accepted row's is one

-- one to three operators of the six, more than one with feedback only; four buffers
pub record Callable (c : Call) : Type 0 where
  pub input : c.input < 4
  pub output : c.output < 4
  pub some : 1 ≤ c.n
  pub few : c.n ≤ 3
  pub within : c.first + c.n ≤ 6
  pub single : (c.input ≡ 3 → ⊥) → c.n ≡ 1

pub record Playable (plan : Plan) : Type 0 where
  pub most : plan.count ≤ 6
  pub calls : (k : ℕ) → k < plan.count → Callable (get_or plan.calls k no_call)

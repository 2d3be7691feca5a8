-- One operator, one sample at a time, in the Rust's order with one rounding per written operation. Definitions only.
use Rattle.std.specs.Prelude.{ℕ, Bool, true, false, cond, List, eqb, Float}
use Rattle.numbers.specs.F32.{◌⊕◌, ◌⊖◌, ◌⊗◌, ◌⊘◌, decimal, as_float}
use Rattle.numbers.specs.Extremes.{minimum}
use Rattle.numbers.specs.Words.{sum32, shifted32}
use Rattle.sine.specs.Sine.{sine_pm}
use Rattle.operator.specs.declared.Operator.{Operator}
use Rattle.operator.specs.declared.Feedback.{Feedback}
use Rattle.operator.specs.declared.Lane.{Lane}

-- an operator at rest: new, or reset
unfoldable pub still : Operator
still = record { phase = 0; amplitude = decimal 0 0 }

-- ---- what is computed once for a block

-- one over the number of samples
unfoldable pub ramp_scale : ℕ → Float
ramp_scale size = decimal 1 0 ⊘ as_float size

-- 2 ^ amount / 512, or 0 where the amount is 0
unfoldable pub feedback_scale_of : ℕ → Float
feedback_scale_of amount = cond (eqb amount 0) (decimal 0 0) (as_float (shifted32 1 amount) ⊘ decimal 512 0)

-- an operator enters a block: its amplitude goes to the target, which is held at 4, in steps as large as the ramp says
unfoldable pub lane_of : Operator → ℕ → Float → Float → Lane
lane_of o step target ramp = record {
  phase = o.phase;
  amplitude = o.amplitude;
  step = step;
  increment = (minimum target (decimal 4 0) ⊖ o.amplitude) ⊗ ramp;
}

-- and leaves it: phase and amplitude are stored
unfoldable pub operator_of : Lane → Operator
operator_of l = record { phase = l.phase; amplitude = l.amplitude }

-- ---- one sample

-- the sine at the phase that the operator moves on to, times the amplitude that it comes with
unfoldable pub sampled : List Float → Lane → Float → Float
sampled pairs l pm = sine_pm pairs (sum32 l.phase l.step) pm ⊗ l.amplitude

-- a sample further: the phase by its step, wrapped, and the amplitude by its increment
unfoldable pub moved : Lane → Lane
moved l = record {
  phase = sum32 l.phase l.step;
  amplitude = l.amplitude ⊕ l.increment;
  step = l.step;
  increment = l.increment;
}

-- the modulation that feedback gives: the origin's last two samples
unfoldable pub fed : Feedback → Float → Float
fed f feedback_scale = (f.previous_0 ⊕ f.previous_1) ⊗ feedback_scale

-- the feedback after a sample of its origin
unfoldable pub pushed : Feedback → Float → Feedback
pushed f pm = record { previous_0 = pm; previous_1 = f.previous_0 }

-- added to what stands there, or set
unfoldable pub mixed : Bool → Float → Float → Float
mixed true there pm = there ⊕ pm
mixed false there pm = pm

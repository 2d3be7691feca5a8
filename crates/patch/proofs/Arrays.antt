-- A patch that a function is given or gets has arrays as long as they are declared: what the law of the round trip
-- asks. Assumes nothing.
use mathlib.Core.Path.{◌≡◌}
use mathlib.Core.List.{List, [], ◌∷◌}
use Prim.Native.Nat.{ℕ, zero, suc, ◌<◌}
use native.Mathlib.Omega.{arith}
use borrow.Author.Rules.{rules}
use lib.ListN.{length, get_or}
use mir.Val.{Val}
use denote.Array.{each}
use denote.Laws.{Is}
use denote.Shadow.{shadow}
use Rattle.patch.specs.declared.Operator.{Operator}
use Rattle.patch.specs.declared.Patch.{Patch}
use Rattle.patch.specs.Form.{operator_at, no_operator, ShapedEnvelope, Shaped}
use Rattle.patch.specs.contracts.Patch as T
use Rattle.patch.specs.contracts.Operator as O

operator_shaped : (o : Operator) (vs : List Val) → shadow (O.the_row.own_val o vs) → ShapedEnvelope o.envelope
operator_shaped o vs g = record { rates = search rules; levels = search rules }

each_shaped : (os : List Operator) (us : List Val) → shadow (each O.the_row.Denot O.the_row.own_val os us) → (k : ℕ)
    → k < length os → ShapedEnvelope (get_or os k no_operator).envelope
each_shaped [] us g k h = let z : ⊥ = omega arith in absurd z
each_shaped (o ∷ os) [] g k h = absurd g
each_shaped (o ∷ os) (u ∷ us) g zero h = operator_shaped o (u ∷ []) g.0
each_shaped (o ∷ os) (u ∷ us) g (suc k) h = each_shaped os us g.1 k (omega arith)

-- `c.good` of a parameter, and `.ok` of a call's result, have such a fact
pub shaped : (p : Patch) (vs : List Val) → Is T.the_row p vs → Shaped p
unfolding operator_at
shaped p vs g =
    let six : length p.op ≡ 6 = search rules in
    record {
      operators = six;
      envelopes = λ k h. each_shaped p.op g.1.1.0.0 g.1.1.0.1.1 k (omega arith);
      pitch = record { rates = search rules; levels = search rules };
      letters = search rules;
    }

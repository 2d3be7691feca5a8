-- How many operators a call takes: a chain's growth, the reuse rule, and the renderers that are known. To be believed.
-- A list `os` here is the row from the call's first operator on.
use Rattle.std.specs.Prelude.{ℕ, suc, ◌-◌, Bool, false, cond, not, ◌&&◌, ◌||◌}
use Rattle.std.specs.Prelude.{List, [], ◌∷◌, eqb, ltb, length, get_or, take, Option, Some, None}
use Rattle.algorithms.specs.Opcode.{destination, adding, source, flagged}

-- ---- why a chain ends at an operator, where `os` are the operators behind it

-- it is the row's last operator
unfoldable pub last_operator : List ℕ → Bool
last_operator os = eqb (length os) 0

-- its destination does not meet the next source
unfoldable pub unmet : ℕ → List ℕ → Bool
unmet o os = not (eqb (destination o) (source (get_or os 0 0)))

-- a chain ends for the one or the other, or at an add flag
unfoldable pub ends : ℕ → List ℕ → Bool
ends o os = last_operator os || (unmet o os || adding o)

-- a chain grows while destination meets next source without an add flag
unfoldable pub grown : List ℕ → ℕ
grown [] = 0
grown (o ∷ os) = cond (ends o os) 1 (suc (grown os))

-- the reuse rule's test: the chain stops short of the row's end, and the next source is its first operator's
-- destination. That modulation is wanted once more, and a chain rendered as one would not leave it in its buffer
unfoldable pub reused : List ℕ → Bool
reused os = ltb (grown os) (length os) && eqb (source (get_or os (grown os) 0)) (destination (get_or os 0 0))

-- the reuse rule sets the chain's length to 1
unfoldable pub chained : List ℕ → ℕ
chained os = cond (reused os) 1 (grown os)

-- ---- renderers

-- what modulates a call's first operator: nothing, a buffer, feedback from the operator that is the origin, or feedback
-- without an origin
pub data Modulation : Type 0 where
  unmodulated : Modulation
  external : Modulation
  feedback : ℕ → Modulation
  originless : Modulation

-- the origin is the last flagged operator; the next operator to look at is the j-th of the call
unfoldable pub origin_from : ℕ → Modulation → List ℕ → Modulation
origin_from j found [] = found
origin_from j found (o ∷ os) = origin_from (suc j) (cond (flagged o) (feedback j) found) os

-- what modulates a call of these operators
unfoldable pub modulation : List ℕ → Modulation
modulation os =
    cond (eqb (source (get_or os 0 0)) 0) unmodulated
    (cond (eqb (source (get_or os 0 0)) 3) (origin_from 0 originless os) external)

-- four operators know only single calls; six also know feedback chains of 3 (origin 2, add) and 2 (origin 1, add)
unfoldable pub known : ℕ → ℕ → Modulation → Bool → Bool
known operators n unmodulated add = eqb n 1
known operators n external add = eqb n 1
known operators n (feedback j) add =
    (eqb n 1 && eqb j 0) || (eqb operators 6 && (add && ((eqb n 3 && eqb j 2) || (eqb n 2 && eqb j 1))))
known operators n originless add = false

-- the first n operators have a renderer
unfoldable pub renders : ℕ → List ℕ → ℕ → Bool
renders operators os n = known operators n (modulation (take n os)) (adding (get_or os (n - 1) 0))

-- having no renderer sets the chain's length to 1, as the reuse rule does
unfoldable pub call_length : ℕ → List ℕ → ℕ
call_length operators os = cond (renders operators os (chained os)) (chained os) 1

-- the operators of a call, or 0 where it has no renderer, neither as a chain nor as one operator
unfoldable pub rendered : ℕ → List ℕ → ℕ
rendered operators os = cond (renders operators os (call_length operators os)) (call_length operators os) 0

-- a length, or that there is none
unfoldable pub some : ℕ → Option ℕ
some n = cond (eqb n 0) None (Some n)

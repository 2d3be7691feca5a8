-- The operators of a call, taken out and put back one by one.
-- Assumes nothing.
use Rattle.std.proofs.Common.{◌≡◌, ℕ, zero, suc, ◌+◌, ◌<◌, ◌≤◌, List, [], ◌∷◌, ◌++◌, length, get_or, set, take, drop}
use Rattle.std.proofs.Common.{refl, sym, ap, ◌∙◌, add-one, add-zero, arith}
use lib.ListN.{drop_of_length-le}
use lib.Seq.{take_all, take-suc-set, drop-cons}
use Rattle.operator.specs.Sample.{operator_of}
use Rattle.operator.specs.declared.Lane.{Lane}
use Rattle.operator.specs.declared.Operator.{Operator}
use Rattle.voice_block.specs.Calls.{Setting, lane_at, lanes_at, chain_at, put_at, put_all}
use Rattle.voice_block.specs.declared.Operators.{Operators}

-- one more is taken out
lanes_more : (g : Setting) (os : List Operator) (first k : ℕ)
    → lanes_at g os first (suc k) ≡ lanes_at g os first k ++ lane_at g os (first + k) ∷ []
unfolding lanes_at
lanes_more g os first zero = rw (add-zero first) refl
lanes_more g os first (suc k) =
    let there : first + suc k ≡ first + 1 + k = omega arith in
    rw there (ap (λ (t : List Lane). lane_at g os first ∷ t) (lanes_more g os (first + 1) k))

pub taken_turn : (g : Setting) (os : List Operator) (first k : ℕ) (ls : List Lane) (l : Lane)
    → take k ls ≡ lanes_at g os first k → k < length ls → l ≡ lane_at g os (first + k)
    → take (k + 1) (set ls k l) ≡ lanes_at g os first (k + 1)
taken_turn g os first k ls l e h el =
    rw (add-one k, take-suc-set ls k l h, e, el) (sym (lanes_more g os first k))

pub taken_done : (g : Setting) (v : Operators) (first k n : ℕ) (ls : List Lane)
    → take k ls ≡ lanes_at g v.operator first k → k ≡ n → length ls ≤ k
    → record { lanes = ls; feedback = v.feedback_state } ≡ chain_at g v first n
unfolding chain_at
taken_done g v first k n ls e en h = rw (← en, ← e, take_all k ls h) refl

-- one more is put back: the rest makes of the operators what the whole chain makes of the first ones
pub back_turn : (v w : Operators) (first k j : ℕ) (ls : List Lane) (past : Lane) (o : Operator)
    → put_all v (first + k) (drop k ls) ≡ w → k < length ls → o ≡ operator_of (get_or ls j past) → j ≡ k
    → put_all (record { operator = set v.operator (first + k) o; feedback_state = v.feedback_state }) (first + (k + 1))
    (drop (k + 1) ls) ≡ w
unfolding put_all put_at
back_turn v w first k j ls past o e h eo same =
    let next : first + (k + 1) ≡ first + k + 1 = omega arith in
    rw (next, add-one k, eo, same) (sym (ap (put_all v (first + k)) (drop-cons ls k past h)) ∙ e)

pub back_done : (v w : Operators) (at k : ℕ) (ls : List Lane) → put_all v at (drop k ls) ≡ w → length ls ≤ k → v ≡ w
unfolding put_all
back_done v w at k ls e h = rw (drop_of_length-le ls h) at e

-- A block of no samples changes nothing that is stored.
-- Assumes nothing.
use mathlib.Core.Path.{◌≡◌, refl, ap, ◌∙◌}
use Prim.Native.Nat.{ℕ, zero, suc, ◌+◌}
use mathlib.Core.List.{List, [], ◌∷◌}
use lib.ListN.{get_or, set}
use lib.Ieee.{Float}
use Rattle.algorithms.specs.Plan.{no_call}
use Rattle.algorithms.specs.declared.Call.{Call}
use Rattle.algorithms.specs.declared.Plan.{Plan}
use Rattle.operator.specs.Sample.{lane_of, operator_of}
use Rattle.operator.specs.Chain.{ended, written}
use Rattle.operator.specs.declared.Operator.{Operator}
use Rattle.voice_block.specs.Quarters.{split, joined}
use Rattle.voice_block.specs.Calls.{no_operator, lane_at, lanes_at, chain_at, put_at, put_all, settled, desk, called}
use Rattle.voice_block.specs.Calls.{called_up_to, setting, ran}
use Rattle.voice_block.specs.declared.Operators.{Operators}
use Rattle.voice_block.specs.Calls.{Setting}

-- what stands somewhere, set there again
set_again : {A : Type 0} (l : List A) (i : ℕ) (d : A) → set l i (get_or l i d) ≡ l
set_again [] i d = refl
set_again (x ∷ l) zero d = refl
set_again (x ∷ l) (suc i) d = ap (λ (t : List _). x ∷ t) (set_again l i d)

-- operators taken out and put back
put_again : (g : Setting) (v : Operators) (first n : ℕ) → put_all v first (lanes_at g v.operator first n) ≡ v
unfolding put_all lanes_at put_at lane_at lane_of operator_of
put_again g v first zero = refl
put_again g v first (suc n) =
    let e : put_at v first (lane_at g v.operator first)
    ≡ v = ap (λ (l : List Operator). record { operator = l; feedback_state = v.feedback_state })
    (set_again v.operator first no_operator) in
    ap (λ (w : Operators). put_all w (first + 1) (lanes_at g v.operator (first + 1) n)) e ∙ put_again g v (first + 1) n

nowhere : (q : ℕ) → get_or (split 0 4 []) q [] ≡ []
unfolding split
nowhere zero = refl
nowhere (suc zero) = refl
nowhere (suc (suc zero)) = refl
nowhere (suc (suc (suc zero))) = refl
nowhere (suc (suc (suc (suc q)))) = refl

module _ (pairs : List Float) (g : Setting) (v : Operators) where
  call_nothing : (c : Call) → called pairs g c (desk 0 v []) ≡ desk 0 v []
  unfolding called settled chain_at ended written
  call_nothing c =
      let o = put_again g v c.first c.n in
      let q = set_again (split 0 4 []) c.output [] in
      rw (nowhere c.output, o)
      (ap (λ (l : List (List Float)). record { operators = v; quarters = l }) ((rw (nowhere c.output) at q)))

  calls_nothing : (cs : List Call) (k : ℕ) → called_up_to pairs g cs k (desk 0 v []) ≡ desk 0 v []
  unfolding called_up_to
  calls_nothing cs zero = refl
  calls_nothing cs (suc k) = rw (calls_nothing cs k) (call_nothing (get_or cs k no_call))

joined_nothing : joined (split 0 4 []) ≡ []
unfolding joined split
joined_nothing = refl

-- THE LAW: the operators, the feedback and the block are as they were
pub no_samples : (pairs : List Float) (plan : Plan) (steps : List ℕ) (targets : List Float) (amount : ℕ) (v : Operators)
    → ran pairs plan steps targets amount v [] ≡ record { operators = v; block = [] }
unfolding ran
no_samples pairs plan steps targets amount v =
    rw (calls_nothing pairs (setting steps targets amount 0) v plan.calls plan.count, joined_nothing)

-- Phases by the book: a plan moves each operator's phase on by the block's samples times its step, modulo 2 ^ 32, and
-- leaves an operator of no call as it was.
-- Assumes nothing.
use mathlib.Core.Path.{◌≡◌, refl, ap, ◌∙◌}
use Prim.Native.Nat.{ℕ, zero, suc, ◌+◌, ◌*◌, ◌/◌, ◌%◌, ◌^◌, ◌-◌, ◌≤◌, ◌<◌}
use native.Mathlib.Nat.{add-zero, le_refl, le_of_suc-le-suc, not-suc-le-zero}
use native.Mathlib.Decide.{dec_lt}
use native.Mathlib.Omega.{arith}
use mathlib.Core.List.{List, [], ◌∷◌}
use lib.ListN.{length, get_or, length-set}
use lib.Seq.{get_or-set_same, get_or-set_other}
use lib.Ieee.{Float}
use Rattle.algorithms.specs.Plan.{no_call}
use Rattle.algorithms.specs.Accepted.{covered, Covering, Sound}
use Rattle.algorithms.specs.declared.Call.{Call}
use Rattle.algorithms.specs.declared.Plan.{Plan}
use Rattle.operator.specs.Sample.{lane_of, operator_of}
use Rattle.operator.specs.Chain.{Chain, ended}
use Rattle.operator.specs.declared.Operator.{Operator}
use Rattle.operator.specs.declared.Lane.{Lane}
use Rattle.operator.proofs.Phases.{no_lane, length_ended, phase_ended}
use Rattle.voice_block.specs.Calls.{no_operator, lane_at, lanes_at, chain_at, put_at, put_all, settled, source_of, Desk}
use Rattle.voice_block.specs.Calls.{desk, called, called_up_to, setting, ran}
use Rattle.voice_block.specs.declared.Operators.{Operators}
use Rattle.voice_block.specs.Calls.{Setting}
use Rattle.voice_block.proofs.Quarters.{size_split}
use Rattle.voice_block.proofs.Same.{plan_size}

-- ---- operators taken out and put back

length_lanes : (g : Setting) (os : List Operator) (first n : ℕ) → length (lanes_at g os first n) ≡ n
unfolding lanes_at
length_lanes g os first zero = refl
length_lanes g os first (suc n) = ap suc (length_lanes g os (first + 1) n)

lane_at_lem : (g : Setting) (os : List Operator) (first n k : ℕ) → k < n
    → get_or (lanes_at g os first n) k no_lane ≡ lane_at g os (first + k)
unfolding lanes_at
lane_at_lem g os first zero k h = absurd (not-suc-le-zero h)
lane_at_lem g os first (suc n) zero h = rw add-zero
lane_at_lem g os first (suc n) (suc k) h =
    lane_at_lem g os (first + 1) n k (le_of_suc-le-suc h) ∙ ap (lane_at g os) (omega arith)

length_put : (v : Operators) (first : ℕ) (ls : List Lane) → length (put_all v first ls).operator ≡ length v.operator
unfolding put_all put_at
length_put v first [] = refl
length_put v first (l ∷ ls) =
    length_put (put_at v first l) (first + 1) ls ∙ length-set v.operator first (operator_of l)

put_before : (v : Operators) (first : ℕ) (ls : List Lane) (j : ℕ) → j < first
    → get_or (put_all v first ls).operator j no_operator ≡ get_or v.operator j no_operator
unfolding put_all put_at
put_before v first [] j h = refl
put_before v first (l ∷ ls) j h =
    put_before (put_at v first l) (first + 1) ls j (omega arith)
    ∙ get_or-set_other v.operator first j (operator_of l) no_operator (omega arith)

put_behind : (v : Operators) (first : ℕ) (ls : List Lane) (j : ℕ) → first + length ls ≤ j
    → get_or (put_all v first ls).operator j no_operator ≡ get_or v.operator j no_operator
unfolding put_all put_at
put_behind v first [] j h = refl
put_behind v first (l ∷ ls) j h =
    put_behind (put_at v first l) (first + 1) ls j (omega arith)
    ∙ get_or-set_other v.operator first j (operator_of l) no_operator (omega arith)

put_there : (v : Operators) (first : ℕ) (ls : List Lane) (k : ℕ) → k < length ls
    → first + length ls ≤ length v.operator
    → get_or (put_all v first ls).operator (first + k) no_operator ≡ operator_of (get_or ls k no_lane)
unfolding put_all put_at
put_there v first [] k h w = absurd (not-suc-le-zero h)
put_there v first (l ∷ ls) zero h w =
    rw (add-zero first) (put_before (put_at v first l) (first + 1) ls first (omega arith)
    ∙ get_or-set_same v.operator first (operator_of l) no_operator (omega arith))
put_there v first (l ∷ ls) (suc k) h w =
    let e : first + suc k ≡ first + 1 + k = omega arith in
    rw e (put_there (put_at v first l) (first + 1) ls k (le_of_suc-le-suc h)
    (rw (length-set v.operator first (operator_of l)) (omega arith)))

-- ---- a call

module _ (pairs : List Float) (g : Setting) (c : Call) (d : Desk) where
  abbrev left : Chain
  left =
      ended pairs (source_of g.feedback_scale c d.quarters) (length (get_or d.quarters c.output [])) 0
      (chain_at g d.operators c.first c.n)

  length_left : length left.lanes ≡ c.n
  unfolding chain_at
  length_left =
      length_ended pairs _ _ 0 (chain_at g d.operators c.first c.n)
      ∙ length_lanes g d.operators.operator c.first c.n

  length_called : length (called pairs g c d).operators.operator ≡ length d.operators.operator
  unfolding called settled
  length_called = length_put d.operators c.first left.lanes

  called_before : (j : ℕ) → j < c.first
      → get_or (called pairs g c d).operators.operator j no_operator ≡ get_or d.operators.operator j no_operator
  unfolding called settled
  called_before j h = put_before d.operators c.first left.lanes j h

  called_behind : (j : ℕ) → c.first + c.n ≤ j
      → get_or (called pairs g c d).operators.operator j no_operator ≡ get_or d.operators.operator j no_operator
  unfolding called settled
  called_behind j h = put_behind d.operators c.first left.lanes j (omega (arith, length_left))

  called_phase : (k : ℕ) → k < c.n → c.first + c.n ≤ length d.operators.operator
      → (get_or d.operators.operator (c.first + k) no_operator).phase < 2 ^ 32
      → (get_or (called pairs g c d).operators.operator (c.first + k) no_operator).phase
      ≡ ((get_or d.operators.operator (c.first + k) no_operator).phase + length
      (get_or d.quarters c.output []) * get_or g.steps (c.first + k) 0) % 2 ^ 32
  unfolding called settled chain_at operator_of lane_at lane_of
  called_phase k h w f =
      let s = chain_at g d.operators c.first c.n in
      let at = lane_at_lem g d.operators.operator c.first c.n k h in
      let p = ap (λ (l : Lane). l.phase) at in
      let t = ap (λ (l : Lane). l.step) at in
      let e = phase_ended pairs (source_of g.feedback_scale c d.quarters)
      (length (get_or d.quarters c.output [])) 0 s k
      (rw (length_lanes g d.operators.operator c.first c.n) h) (rw p f) in
      ap (λ (o : Operator). o.phase)
      (put_there d.operators c.first left.lanes k (omega (arith, length_left)) (omega (arith, length_left)))
      ∙ (rw (p, t) at e)

-- ---- a plan

module _ (pairs : List Float) (g : Setting) (cs : List Call) (count operators n : ℕ) (v : Operators) (l : List Float)
    (cover : Covering cs count operators)
    (sound : (k : ℕ) → k < count → Sound operators (get_or cs k no_call)) (six : operators ≤ length v.operator)
    (whole : length l ≡ 4 * n) where
  abbrev after : ℕ → Desk
  after k = called_up_to pairs g cs k (desk n v l)

  length_after : (k : ℕ) → length (after k).operators.operator ≡ length v.operator
  unfolding called_up_to
  length_after zero = refl
  length_after (suc k) = length_called pairs g (get_or cs k no_call) (after k) ∙ length_after k

  -- behind the first k calls nothing has moved
  untouched : (k : ℕ) → k ≤ count → (j : ℕ) → covered cs k ≤ j
      → get_or (after k).operators.operator j no_operator ≡ get_or v.operator j no_operator
  unfolding called_up_to covered
  untouched zero h j b = refl
  untouched (suc k) h j b =
      called_behind pairs g (get_or cs k no_call) (after k) j b
      ∙ untouched k (omega arith) j (omega (arith, cover.starts k h))

  moved_on : (k : ℕ) → k ≤ count → (j : ℕ) → j < covered cs k → (get_or v.operator j no_operator).phase < 2 ^ 32
      → (get_or (after k).operators.operator j no_operator).phase
      ≡ ((get_or v.operator j no_operator).phase + n * get_or g.steps j 0) % 2 ^ 32
  unfolding called_up_to covered
  moved_on zero h j b f = absurd (not-suc-le-zero b)
  moved_on (suc k) h j b f = pick (dec_lt j (covered cs k)) (moved_on k (omega arith) j)
    where
      c : Call
      c = get_or cs k no_call

      pick : Dec (j < covered cs k)
          → (j < covered cs k → (get_or v.operator j no_operator).phase < 2 ^ 32
          → (get_or (after k).operators.operator j no_operator).phase
          ≡ ((get_or v.operator j no_operator).phase + n * get_or g.steps j 0) % 2 ^ 32)
          → (get_or (called pairs g (get_or cs k no_call) (after k)).operators.operator j no_operator).phase
          ≡ ((get_or v.operator j no_operator).phase + n * get_or g.steps j 0) % 2 ^ 32
      pick (yes x) r =
          ap (λ (o : Operator). o.phase)
          (called_before pairs g (get_or cs k no_call) (after k) j (omega (arith, cover.starts k h))) ∙ r x f
      pick (no x) r =
          let first = (get_or cs k no_call).first in
          let i : first + (j - first) ≡ j = omega (arith, cover.starts k h) in
          let same = untouched k (omega arith) j (omega arith) in
          let z = plan_size pairs g cs k (desk n v l) (get_or cs k no_call).output
          ∙ size_split n 4 (get_or cs k no_call).output l (sound k h).output whole in
          let p = called_phase pairs g (get_or cs k no_call) (after k) (j - first) (omega arith)
          (omega (arith, (sound k h).within, length_after k)) (rw (i, same) f) in
          rw (i, z, same) at p

-- THE THEOREM: the phases after a plan
pub plan_phases : (pairs : List Float) (plan : Plan) (steps : List ℕ) (targets : List Float) (amount operators : ℕ)
    (v : Operators) (l : List Float)
    → Covering plan.calls plan.count operators
    → ((k : ℕ) → k < plan.count → Sound operators (get_or plan.calls k no_call)) → operators ≤ length v.operator
    → length l % 4 ≡ 0 → (j : ℕ) → j < operators → (get_or v.operator j no_operator).phase < 2 ^ 32
    → (get_or (ran pairs plan steps targets amount v l).operators.operator j no_operator).phase
    ≡ ((get_or v.operator j no_operator).phase + length l / 4 * get_or steps j 0) % 2 ^ 32
unfolding ran setting
plan_phases pairs plan steps targets amount operators v l cover sound six whole j h f =
    let n = length l / 4 in
    moved_on pairs (setting steps targets amount n) plan.calls plan.count operators n v l cover sound six
    (omega arith) plan.count (le_refl plan.count) j (omega (arith, cover.whole)) f

-- and the operators that no call has
pub plan_others : (pairs : List Float) (plan : Plan) (steps : List ℕ) (targets : List Float) (amount operators : ℕ)
    (v : Operators) (l : List Float)
    → Covering plan.calls plan.count operators
    → ((k : ℕ) → k < plan.count → Sound operators (get_or plan.calls k no_call)) → operators ≤ length v.operator
    → length l % 4 ≡ 0 → (j : ℕ) → operators ≤ j
    → get_or (ran pairs plan steps targets amount v l).operators.operator j no_operator
    ≡ get_or v.operator j no_operator
unfolding ran
plan_others pairs plan steps targets amount operators v l cover sound six whole j h =
    let n = length l / 4 in
    untouched pairs (setting steps targets amount n) plan.calls plan.count operators n v l cover sound six
    (omega arith) plan.count (le_refl plan.count) j (omega (arith, cover.whole))

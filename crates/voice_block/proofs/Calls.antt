-- A call of the code makes what the definition says: its part of the block rendered and put back, and so its operators.
-- Assumes nothing.
use mathlib.Core.Path.{◌≡◌, refl, sym, ap, ◌∙◌}
use Prim.Native.Nat.{ℕ, zero, suc, ◌+◌, ◌-◌, ◌*◌, ◌/◌, ◌%◌, ◌≤◌, ◌<◌}
use native.Mathlib.Nat.{eq-or-lt_of_le}
use native.Mathlib.Omega.{arith}
use mathlib.Core.List.{List, []}
use mathlib.Core.Logic.{◌⊎◌, inl, inr}
use mathlib.Core.Bool.{true, ◌||◌}
use lib.Dec.{eqb}
use lib.ListN.{length, get_or, take, drop}
use lib.Ieee.{Float}
use borrow.Rule.Slice.PartMut.{put_mid}
use Rattle.algorithms.specs.Plan.{reading}
use Rattle.algorithms.specs.declared.Call.{Call}
use Rattle.algorithms.specs.declared.Plan.{Plan}
use Rattle.operator.specs.Sample.{ramp_scale, feedback_scale_of}
use Rattle.operator.specs.Chain.{Source, Chain, Rendered}
use Rattle.operator.specs.Chain.Source.{none, external, feedback}
use Rattle.voice_block.specs.Quarters.{split, joined, Quartered}
use Rattle.voice_block.specs.Calls.{Setting, chain_at, settled, source_of, Desk, desk, called, called_up_to, setting}
use Rattle.voice_block.specs.Calls.{ran, Callable}
use Rattle.voice_block.specs.declared.Operators.{Operators}
use Rattle.voice_block.proofs.Quarters.{read_at, write_at, joined_split}

-- ---- what modulates a call

between : (i : ℕ) → 1 ≤ i → i < 3 → (eqb i 1 || eqb i 2) ≡ true
between zero h k = absurd (omega arith)
between (suc zero) h k = refl
between (suc (suc zero)) h k = refl
between (suc (suc (suc i))) h k = absurd (omega arith)

module _ (scale : Float) (c : Call) (qs : List (List Float)) where
  pub source_none : c.input ≡ 0 → none ≡ source_of scale c qs
  unfolding source_of reading
  source_none e = rw e

  pub source_feedback : c.input ≡ 3 → feedback scale ≡ source_of scale c qs
  unfolding source_of reading
  source_feedback e = rw e

  pub source_external : 1 ≤ c.input → c.input < 3 → (modulation : List Float) → modulation ≡ get_or qs c.input []
      → external modulation ≡ source_of scale c qs
  unfolding source_of reading
  source_external h k modulation e = rw (between c.input h k, e)

-- more than one operator: feedback modulates them
pub chain_fed : (c : Call) → Callable c → (c.n ≡ 1 → ⊥) → c.input ≡ 3
chain_fed c h z = pick (eq-or-lt_of_le (omega (arith, h.input)))
  where
    pick : (c.input ≡ 3) ⊎ (c.input < 3) → c.input ≡ 3
    pick (inl e) = e
    pick (inr l) = absurd (z (h.single (λ e. omega arith)))

pub chain_three : (c : Call) → Callable c → (c.n ≡ 1 → ⊥) → (c.n ≡ 2 → ⊥) → c.n ≡ 3
chain_three c h y z = omega (arith, h.some, h.few)

-- its operators are among the six
pub chain_within : (c : Call) (n : ℕ) → Callable c → c.n ≡ n → c.first + n ≤ 6
chain_within c n h e = rw (← e) h.within

-- ---- a call

-- the call c renders a chain of m operators, from s to e, into the part of the output that starts at a, where `new`
-- stands then, and puts it back
module _ (pairs : List Float) (g : Setting) (n : ℕ) (c : Call) (a m : ℕ) (v r : Operators) (block new : List Float)
    (source : Source) (s e : Chain) where
  pub call_law : Callable c → Quartered n block → c.n ≡ m → a ≡ c.output * n
      → source ≡ source_of g.feedback_scale c (split n 4 block)
      → length new ≡ length (take (a + n - a) (drop a block)) → s ≡ chain_at g v c.first m
      → Rendered pairs source c.add s (take (a + n - a) (drop a block)) e new → r ≡ settled v c.first e
      → desk n r (put_mid a (a + n - a) block new) ≡ called pairs g c (desk n v block)
  unfolding called
  call_law h w em ea eu f es x er =
      let there = read_at n c.output a block h.output w.whole ea in
      let put = write_at n c.output a block h.output w.whole ea new f in
      let samples = rw (there, eu, es, ← em) at x.samples in
      let chain = rw (there, eu, es, ← em) at x.chain in
      rw (er, put, samples, chain)

-- ---- a plan

-- the setting of its parts
pub settings : (steps : List ℕ) (targets : List Float) (amount n : ℕ) (ramp scale : Float)
    → ramp ≡ ramp_scale n → scale ≡ feedback_scale_of amount
    → record { steps = steps; targets = targets; ramp = ramp; feedback_scale = scale } ≡ setting steps targets amount n
unfolding setting
settings steps targets amount n ramp scale x y = rw (x, y)

-- the desk after the calls is the whole answer
pub ran_law : (pairs : List Float) (plan : Plan) (steps : List ℕ) (targets : List Float) (amount : ℕ) (v : Operators)
    (l : List Float) (r : Operators) (new : List Float) (g : Setting) (n : ℕ)
    → n ≡ length l / 4 → g ≡ setting steps targets amount n → length l % 4 ≡ 0 → length new ≡ length l
    → desk n r new ≡ called_up_to pairs g plan.calls plan.count (desk n v l)
    → record { operators = r; block = new } ≡ ran pairs plan steps targets amount v l
unfolding ran
ran_law pairs plan steps targets amount v l r new g n en eg h f e =
    let j = joined_split n 4 new (omega arith) in
    let d = rw eg at e in
    let x = ap (λ (d : Desk). d.operators) d in
    let y = sym j ∙ ap (λ (d : Desk). joined d.quarters) d in
    rw (← en, x, y)

-- `algorithms::grow` meets its contract. Assumes nothing.
use mathlib.Core.Path.{◌≡◌, sym, ap, ◌∙◌}
use mathlib.Core.Bool.{Bool, not, ◌||◌}
use mathlib.Core.List.{List, [], ◌∷◌}
use Prim.Native.Nat.{ℕ, ◌+◌}
use native.Mathlib.Nat.{add-zero}
use native.Mathlib.Omega.{arith}
use lib.ListN.{get_or}
use Rattle.std.proofs.Common.{rules}
use Rattle.std.proofs.lemmas.Iterator.{window_more}
use Rattle.algorithms.specs.Opcode.{adding}
use Rattle.algorithms.specs.Chain.{unmet}
use Rattle.algorithms.proofs.Lengths.{last_at, end_at, more_at}
use Rattle.algorithms.proofs.grow.Goals as goal

-- the test at a window is that of its two operators
test_at : {b : Bool} (os pair : List ℕ) (i j : ℕ) → i ≡ j → get_or pair 0 0 ≡ get_or os (i + 0) 0
    → get_or pair 1 0 ≡ get_or os (i + 1) 0
    → b ≡ not (unmet (get_or pair 0 0) (get_or pair 1 0 ∷ []) || adding (get_or pair 0 0))
    → not (unmet (get_or os j 0) (get_or os (j + 1) 0 ∷ []) || adding (get_or os j 0)) ≡ b
test_at os pair i j z x y e = rw (← z, ← y, sym (ap (λ (k : ℕ). get_or os k 0) (add-zero i)) ∙ sym x) (sym e)

pub returns-then-not-grows : goal.returns-then-not-grows
returns-then-not-grows c =
    let h = window_more c.args.os.now c.loop-pair.pair-iterator c.next.new.self _ _ c.in-Some.is c.next.ensures.steps
    (search rules) (search rules) (search rules) in
    let t = test_at c.args.os.now c.in-Some.pair.now _ c.loop-pair.links (omega arith) (h.3 0 0 (search rules)) (h.3 1
    0 (search rules)) c.grows.ensures in
    omega (arith, end_at c.args.os.now c.loop-pair.links (omega arith) (t ∙ c.if-not-grows.true))

pub loop-pair-preserved : goal.loop-pair-preserved
loop-pair-preserved c =
    let h = window_more c.args.os.now c.loop-pair.pair-iterator c.next.new.self _ _ c.in-Some.is c.next.ensures.steps
    (search rules) (search rules) (search rules) in
    let t = test_at c.args.os.now c.in-Some.pair.now _ c.loop-pair.links (omega arith) (h.3 0 0 (search rules)) (h.3 1
    0 (search rules)) c.grows.ensures in
    record {
      two = search rules;
      within = omega arith;
      rest = h.1;
      passed = omega arith;
      chain = omega (arith, more_at c.args.os.now c.loop-pair.links (omega arith) (t ∙ c.if-not-grows.false));
    }

pub returns : goal.returns
returns c =
    let end = (rw c.in-None.is at c.next.ensures.steps).1.0 in
    omega (arith, last_at c.args.os.now c.loop-pair.links (omega arith))

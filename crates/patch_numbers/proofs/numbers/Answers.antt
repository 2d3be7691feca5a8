-- `patch_numbers::numbers` meets its contract. The invariant: the first k operators' numbers stand before zeros.
-- Assumes nothing.
use mathlib.Core.Path.{refl, ◌∙◌, ap}
use mathlib.Core.List.{List}
use Prim.Native.Nat.{ℕ, ◌*◌}
use lib.ListN.{length, replicate}
use lib.Seq.{paste}
use Rattle.patch.specs.Form.{operator_at, no_operator, scaling_with}
use Rattle.lent_bytes.proofs.Blocks.{blocks, next_block}
use Rattle.patch_numbers.proofs.RoundTrip.{operator_block, block_length, all_put}
use native.Mathlib.Omega.{arith}
use Rattle.patch_numbers.proofs.numbers.Goals as goal

pub loop-k-init : goal.loop-k-init
unfolding blocks
loop-k-init c = refl

pub loop-k-preserved : goal.loop-k-preserved
unfolding operator_at no_operator scaling_with
loop-k-preserved c =
    let p = c.args.patch in
    next_block (operator_block p) 21 (block_length p) (replicate 155 0) _ _ c.loop-k.k c.loop-k.invariant
    (c.put.ensures
    ∙ ap (λ (b : List ℕ). paste c.loop-k.out (21 * c.loop-k.k) b (length b)) c.operator_numbers.ensures)

pub returns : goal.returns
returns c =
    all_put c.args.patch c.loop-k.k _ _ (omega arith) c.loop-k.invariant
    (c.put-2.ensures
    ∙ ap (λ (b : List ℕ). paste c.loop-k.out 126 b (length b)) c.shared_numbers.ensures)

-- `patch_packer::pack_whole` meets its contract. The invariant: the first k operators are pasted into zeros. Assumes
-- nothing.
use mathlib.Core.Path.{◌≡◌, refl, ◌∙◌, ap}
use mathlib.Core.List.{List}
use Prim.Native.Nat.{ℕ, ◌*◌}
use native.Mathlib.Omega.{arith}
use lib.ListN.{length}
use lib.Seq.{paste}
use Rattle.patch.specs.Form.{operator_at, no_operator, scaling_with}
use Rattle.patch_packer.specs.Packing.{operator_bytes, shared_bytes, bytes_of}
use Rattle.patch_packer.proofs.Bytes.{operator_fits_lem, first_blocks, next_block, pasted}
use Rattle.patch_packer.proofs.pack_whole.Goals as goal

pub loop-k-init : goal.loop-k-init
unfolding first_blocks
loop-k-init c = refl

pub operator_bytes-requires : goal.operator_bytes-requires
unfolding operator_at no_operator scaling_with
operator_bytes-requires c = operator_fits_lem _ c.requires c.loop-k.k (omega arith)

pub loop-k-preserved : goal.loop-k-preserved
unfolding operator_at no_operator scaling_with operator_bytes bytes_of
loop-k-preserved c =
    next_block c.args.p.op c.loop-k.k _ _ c.loop-k.invariant
    (c.put.ensures
    ∙ ap (λ (b : List ℕ). paste c.loop-k.out (17 * c.loop-k.k) b (length b)) c.operator_bytes.ensures)

pub returns : goal.returns
unfolding shared_bytes bytes_of
returns c =
    let six : c.loop-k.k ≡ 6 = omega arith in
    pasted c.args.p _ _ _ six c.loop-k.invariant
    (c.put-2.ensures ∙ ap (λ (b : List ℕ). paste c.loop-k.out 102 b (length b)) c.shared_bytes.ensures)

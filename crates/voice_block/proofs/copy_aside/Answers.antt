-- `voice_block::copy_aside` meets its contract. Assumes nothing.
use Rattle.std.proofs.Common.{ℕ, ◌≡◌, ◌+◌, ◌<◌, ◌∙◌, refl, length, take, add-one, arith}
use mathlib.Core.List.{List}
use lib.ListN.{set, get_or}
use lib.Seq.{take-suc, take-suc-set, take-length}
use lib.Ieee.{Float, nan}
use Rattle.voice_block.proofs.copy_aside.Goals as goal

-- a turn's store takes the copy of i samples to that of one more
store : (a s : List Float) (i : ℕ) → i < length a → i < length s → take i a ≡ take i s
    → take (i + 1) (set a i (get_or s i nan)) ≡ take (i + 1) s
store a s i h k e = rw (add-one i, take-suc-set a i (get_or s i nan) h, take-suc s i nan k, e)

pub loop-i-init : goal.loop-i-init
loop-i-init c = refl

pub loop-i-preserved : goal.loop-i-preserved
loop-i-preserved c =
    store c.loop-i.aside c.args.quarter.now c.loop-i.i (omega arith) (omega arith) c.loop-i.invariant

pub returns : goal.returns
returns c =
    let s = c.args.quarter.now in
    let e : c.loop-i.i ≡ length s = omega arith in
    (rw e at c.loop-i.invariant) ∙ take-length s

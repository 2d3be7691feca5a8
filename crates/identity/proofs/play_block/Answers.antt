-- `identity::play_block` meets its contract. Assumes nothing.
use Rattle.std.proofs.Common.{refl}
use Rattle.std.proofs.lemmas.Result.{err_from_is_err_and}
use lib.Ieee.{of_bits}
use Rattle.numbers.specs.F32.{decimal}
use Rattle.identity.specs.Identity.{block_played}
use Rattle.identity.proofs.play_block.Goals as goal

pub returns-in_err-motion : goal.returns-in_err-motion
unfolding block_played decimal of_bits
returns-in_err-motion c =
    let p = err_from_is_err_and c.from_residual.result c.from_residual.ensures.1 in
    rw (p.1, p.2, ← c.in_err-motion.ensures) refl

pub returns-in_err-pitch_mod : goal.returns-in_err-pitch_mod
unfolding block_played decimal of_bits
returns-in_err-pitch_mod c =
    let p = err_from_is_err_and c.from_residual-in_err-pitch_mod.result c.from_residual-in_err-pitch_mod.ensures.1 in
    rw (p.1, p.2, ← c.in_ok-motion.ensures, ← c.in_err-pitch_mod.ensures) refl

pub returns-in_err-amp_mod : goal.returns-in_err-amp_mod
unfolding block_played decimal of_bits
returns-in_err-amp_mod c =
    let p = err_from_is_err_and c.from_residual-in_err-amp_mod.result c.from_residual-in_err-amp_mod.ensures.1 in
    rw (p.1, p.2, ← c.in_ok-motion.ensures, ← c.in_ok-pitch_mod.ensures, ← c.in_err-amp_mod.ensures) refl

pub returns-in_err-rendered : goal.returns-in_err-rendered
unfolding block_played decimal of_bits
returns-in_err-rendered c =
    let p = err_from_is_err_and c.from_residual-in_err-rendered.result c.from_residual-in_err-rendered.ensures.1 in
    let r = rw c.parameters-p.ensures at c.in_err-rendered.ensures in
    rw (
      p.1,
      p.2,
      ← c.in_ok-motion.ensures,
      ← c.in_ok-pitch_mod.ensures,
      ← c.in_ok-amp_mod.ensures,
      ← r,
    ) refl

pub returns : goal.returns
unfolding block_played decimal of_bits
returns c =
    let r = rw c.parameters-p.ensures at c.in_ok-rendered.ensures in
    rw (
      ← c.in_ok-motion.ensures,
      ← c.in_ok-pitch_mod.ensures,
      ← c.in_ok-amp_mod.ensures,
      ← r,
      c.hash_output.ensures,
    ) refl

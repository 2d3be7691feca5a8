-- `identity::prepare` meets its contract. Assumes nothing.
use Rattle.std.proofs.Common.{refl}
use Rattle.std.proofs.lemmas.Result.{err_from_is_err_and}
use lib.Ieee.{of_bits}
use Rattle.numbers.specs.F32.{decimal}
use Rattle.identity.specs.Identity.{readied}
use Rattle.identity.proofs.prepare.Goals as goal

pub returns-in_err-made : goal.returns-in_err-made
unfolding readied decimal of_bits
returns-in_err-made c =
    let p = err_from_is_err_and c.from_residual.result c.from_residual.ensures.1 in
    rw (p.1, p.2, ← c.in_err-made.ensures) refl

pub returns-in_err-voice : goal.returns-in_err-voice
unfolding readied decimal of_bits
returns-in_err-voice c =
    let p = err_from_is_err_and c.from_residual-in_err-voice.result c.from_residual-in_err-voice.ensures.1 in
    let v = rw c.opcodes_6_32.ensures at c.in_err-voice.ensures in
    rw (p.1, p.2, ← c.in_ok-made.ensures, ← v) refl

pub returns-in_err-started : goal.returns-in_err-started
unfolding readied decimal of_bits
returns-in_err-started c =
    let p = err_from_is_err_and c.from_residual-in_err-started.result c.from_residual-in_err-started.ensures.1 in
    let v = rw c.opcodes_6_32.ensures at c.in_ok-voice.ensures in
    rw (p.1, p.2, ← c.in_ok-made.ensures, ← v, ← c.in_err-started.ensures) refl

pub returns-in_err-set : goal.returns-in_err-set
unfolding readied decimal of_bits
returns-in_err-set c =
    let p = err_from_is_err_and c.from_residual-in_err-set.result c.from_residual-in_err-set.ensures.1 in
    let v = rw c.opcodes_6_32.ensures at c.in_ok-voice.ensures in
    rw (p.1, p.2, ← c.in_ok-made.ensures, ← v, ← c.in_ok-started.ensures, ← c.in_err-set.ensures) refl

pub returns-in_err-lfo : goal.returns-in_err-lfo
unfolding readied decimal of_bits
returns-in_err-lfo c =
    let p = err_from_is_err_and c.from_residual-in_err-lfo.result c.from_residual-in_err-lfo.ensures.1 in
    let v = rw c.opcodes_6_32.ensures at c.in_ok-voice.ensures in
    rw (
      p.1,
      p.2,
      ← c.in_ok-made.ensures,
      ← v,
      ← c.in_ok-started.ensures,
      ← c.in_ok-set.ensures,
      ← c.in_err-lfo.ensures,
    ) refl

pub returns : goal.returns
unfolding readied decimal of_bits
returns c =
    let v = rw c.opcodes_6_32.ensures at c.in_ok-voice.ensures in
    rw (
      ← c.in_ok-made.ensures,
      ← v,
      ← c.in_ok-started.ensures,
      ← c.in_ok-set.ensures,
      ← c.in_ok-lfo.ensures,
    ) refl

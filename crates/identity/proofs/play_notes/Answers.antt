-- `identity::play_notes` meets its contract. Assumes nothing.
use Rattle.std.proofs.Common.{refl}
use Rattle.std.proofs.lemmas.Result.{err_from_is_err_and}
use lib.Ieee.{of_bits}
use Rattle.numbers.specs.F32.{decimal}
use Rattle.identity.specs.Identity.{notes_played}
use Rattle.identity.proofs.play_notes.Goals as goal

pub returns-in_err-h36 : goal.returns-in_err-h36
unfolding notes_played decimal of_bits
returns-in_err-h36 c =
    let p = err_from_is_err_and c.from_residual.result c.from_residual.ensures.1 in
    rw (p.1, p.2, ← c.in_err-h36.ensures) refl

pub returns-in_err-h60 : goal.returns-in_err-h60
unfolding notes_played decimal of_bits
returns-in_err-h60 c =
    let p = err_from_is_err_and c.from_residual-in_err-h60.result c.from_residual-in_err-h60.ensures.1 in
    rw (p.1, p.2, ← c.in_ok-h36.ensures, ← c.in_err-h60.ensures) refl

pub returns : goal.returns
unfolding notes_played decimal of_bits
returns c = rw (← c.in_ok-h36.ensures, ← c.in_ok-h60.ensures) c.play_note-3.ensures

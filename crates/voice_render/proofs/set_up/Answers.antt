-- `voice_render::set_up` meets its contract. Assumes nothing.
use borrow.Author.Tests.{not-false}
use Rattle.voice.proofs.States.{state_fits_lem, stored}
use Rattle.voice_render.proofs.Blocks.{count_at_most_6, operators_of}
use Rattle.voice_render.proofs.set_up.Goals as goal

pub setup_operators-s-requires : goal.setup_operators-s-requires
setup_operators-s-requires c =
    let fits = c.requires in (
      count_at_most_6 _ (state_fits_lem _ fits).count,
      operators_of _ (stored _ fits (not-false _ c.if-not-v.false)).fits,
    )

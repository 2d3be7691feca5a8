-- `voice_render::render_sounding` meets its contract. Assumes nothing.
use native.Mathlib.Omega.{arith}
use Rattle.voice_block.proofs.Accepted.{accepted_playable}
use Rattle.voice.proofs.States.{state_fits_lem, stored, clean_has}
use Rattle.voice_render.proofs.Blocks.{count_at_most_6, operators_of, block_small, block_whole, sounded_of}
use Rattle.voice_render.proofs.render_sounding.Goals as goal

pub overflow_cast-n : goal.overflow_cast-n
overflow_cast-n c = let small = block_small _ c.requires.2 in omega arith

pub begin-b-requires : goal.begin-b-requires
begin-b-requires c = (state_fits_lem _ c.requires.0).pitch

pub level_operators-l-requires : goal.level_operators-l-requires
level_operators-l-requires c =
    let fits = c.requires.0 in (
      count_at_most_6 _ (state_fits_lem _ fits).count,
      operators_of _ (stored _ fits (clean_has _ fits c.requires.1)).fits,
      (state_fits_lem _ fits).stages,
    )

pub run_plan-os-requires : goal.run_plan-os-requires
run_plan-os-requires c =
    let sound = stored _ c.requires.0 (clean_has _ c.requires.0 c.requires.1) in (
      accepted_playable _ _ _ sound.accepted,
      block_small _ c.requires.2,
      block_whole _ c.requires.2,
    )

pub returns : goal.returns
returns c =
    sounded_of _ _ _ _ _ _ c.begin-b.ensures c.level_operators-l.ensures
    c.enter.ensures c.run_plan-os.ensures c.leave.ensures

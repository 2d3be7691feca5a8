-- The marks of a block in the words of document 02's request e. Definitions only.
use Rattle.std.specs.Prelude.{ℕ, ◌/◌, Bool, cond, not, ◌&&◌, ◌||◌, List, eqb, leb, length, get_or, Float}
use Rattle.dx_units_step.specs.declared.Mark.{Mark}
use Rattle.dx_units_step.specs.declared.Mark.TheVariants.{AsAsked}
use Rattle.dx_units_step.specs.Step.{mark_for}
use Rattle.voice_levels.specs.Levels.{frequency_of, no_ratio}
use Rattle.voice.specs.declared.Voice.{Voice}
use Rattle.voice.specs.Answers.{state_fits}
use Rattle.voice_render.specs.declared.VoiceParameters.{VoiceParameters}
use Rattle.voice_render.specs.Block.{played_by, begun}
use Rattle.voice_render.specs.Answers.{block_fits, parameters_fit_for}

-- refused, with 9, 8 or 7
unfoldable pub refused : Voice → VoiceParameters → List Float → Bool
refused v p block = not (state_fits v && block_fits (length block) && parameters_fit_for v p)

-- refused, blank or empty: such a block says as asked of every operator
unfoldable pub untold : Voice → VoiceParameters → List Float → Bool
untold v p block = refused v p block || v.dirty || eqb (length block) 0

module _ (high low : List Float) (v : Voice) (p : VoiceParameters) (block : List Float) where
  -- the frequency that an operator has in a block, in turns a sample
  unfoldable pub frequency_in : ℕ → Float
  frequency_in k =
      let scene = (begun high low v (played_by v p) (length block / 4)).scene in
      frequency_of scene (get_or v.ratios k no_ratio)

  -- the mark that a block has for operator k: its frequency's. The two that a voice of four lacks are as asked
  unfoldable pub mark_in : ℕ → Mark
  mark_in k = cond (untold v p block || leb v.operators k) AsAsked (mark_for (frequency_in k))

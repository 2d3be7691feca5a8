-- The states that calls reach: neither the voice nor the LFO is one that 9 refuses; and what becomes of a voice or an
-- LFO where a host stores what a refused start hands out. Definitions only.
use Rattle.std.specs.Prelude.{Bool, true, false, not, ◌&&◌, ◌||◌, List, [], ◌∷◌, ℕ, T, eqb, Float}
use Rattle.lfo.specs.Calls.{Valid}
use Rattle.lfo.specs.Answers as lfo
use Rattle.refusals.specs.Answer.{number_told, state_after}
use Rattle.voice.specs.Answers.{state_fits, init_answer}
use Rattle.theorem_runs.specs.Run.{Call, Start, OfVoice, StartLfo, OfLfo, number_of, State, Step}

-- the voice is one that 9 accepts, and the LFO is as calls leave a fresh one
pub record Good (s : State) : Type 0 where
  pub voice : T (state_fits s.voice)
  pub lfo : Valid s.lfo

-- what a voice and an LFO start from
unfoldable pub fresh : ℕ → Float → Float → State
fresh operators rate lfo_rate =
    record { voice = state_after (init_answer operators rate); lfo = state_after (lfo.init_answer lfo_rate) }

-- ---- a test of every call of a list, and of what every call of a run gave

unfoldable pub each : (Call → Bool) → List Call → Bool
each test [] = true
each test (call ∷ calls) = test call && each test calls

unfoldable pub throughout : (Call → Step → Bool) → List Call → List Step → Bool
throughout test [] ts = true
throughout test (call ∷ calls) [] = true
throughout test (call ∷ calls) (t ∷ ts) = test call t && throughout test calls ts

-- no refused start's voice or LFO is stored
unfoldable pub careful : Call → Bool
careful (Start stores operators rate) = not stores || eqb (number_told (init_answer operators rate)) 0
careful (OfVoice call) = true
careful (StartLfo stores rate) = not stores || eqb (number_told (lfo.init_answer rate)) 0
careful (OfLfo call) = true

unfoldable pub is_nine : Step → Bool
is_nine t = eqb (number_of t.answer) 9

unfoldable pub not_nine : Call → Step → Bool
not_nine call t = not (is_nine t)

-- ---- what becomes of a voice, or of an LFO, until its next start

-- a call that is no start of it
unfoldable pub keeps_voice : Call → Bool
keeps_voice (Start stores operators rate) = false
keeps_voice (OfVoice call) = true
keeps_voice (StartLfo stores rate) = true
keeps_voice (OfLfo call) = true

unfoldable pub keeps_lfo : Call → Bool
keeps_lfo (Start stores operators rate) = true
keeps_lfo (OfVoice call) = true
keeps_lfo (StartLfo stores rate) = false
keeps_lfo (OfLfo call) = true

-- where a call is one of its own, it gets a 9
unfoldable pub voice_nine : Call → Step → Bool
voice_nine (Start stores operators rate) t = true
voice_nine (OfVoice call) t = is_nine t
voice_nine (StartLfo stores rate) t = true
voice_nine (OfLfo call) t = true

unfoldable pub lfo_nine : Call → Step → Bool
lfo_nine (Start stores operators rate) t = true
lfo_nine (OfVoice call) t = true
lfo_nine (StartLfo stores rate) t = true
lfo_nine (OfLfo call) t = is_nine t

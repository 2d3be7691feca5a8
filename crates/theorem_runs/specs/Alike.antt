-- Demand 3's words: calls that are the same but for what was left in the work buffers, and what is heard of a call.
-- Definitions only.
use Rattle.std.specs.Prelude.{◌≡◌, List, [], ◌∷◌, length, Float}
use Rattle.voice_render.specs.declared.VoiceParameters.{VoiceParameters}
use Rattle.voice_render.specs.Heard.{output, heard_of}
use Rattle.theorem_runs.specs.VoiceCalls as voice
use Rattle.theorem_runs.specs.Run.{Call, OfVoice, Answer, FromVoice, FromLfo, Step}

-- equal calls, generators' numbers and all, or blocks with equal tables and parameters, of one length and with equal
-- output before them: the scratch may differ
pub data Alike : Call → Call → Type 0 where
  equal : (call : Call) → Alike call call
  blocks : (pairs high low : List Float) (p : VoiceParameters) (one other : List Float)
      → length one ≡ length other → output one ≡ output other
      → Alike (OfVoice (voice.Render pairs high low p one)) (OfVoice (voice.Render pairs high low p other))

-- call by call
pub data AllAlike : List Call → List Call → Type 0 where
  none : AllAlike [] []
  more : {c d : Call} {cs ds : List Call} → Alike c d → AllAlike cs ds → AllAlike (c ∷ cs) (d ∷ ds)

-- a voice's answer, a block's without the scratch
abbrev pub heard_voice : voice.Answer → voice.Answer
heard_voice (voice.Prepares a) = voice.Prepares a
heard_voice (voice.Tells a) = voice.Tells a
heard_voice (voice.Readies a) = voice.Readies a
heard_voice (voice.Renders a) = voice.Renders (heard_of a)

abbrev pub heard_answer : Answer → Answer
heard_answer (FromVoice a) = FromVoice (heard_voice a)
heard_answer (FromLfo a) = FromLfo a

-- a call's answer, its output and the whole voice and LFO after it
unfoldable pub heard : Step → Step
heard t = record { answer = heard_answer t.answer; state = t.state }

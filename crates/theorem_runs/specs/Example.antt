-- A run of four calls that sounds: a voice of four operators is started, gets a patch, is set up by a blank block and
-- plays two samples of a note. Definitions only.
use Rattle.std.specs.Prelude.{ℕ, true, false, List, [], ◌∷◌, Float}
use Rattle.numbers.specs.F32.{decimal}
use Rattle.sine.specs.Pairs.{sine_pairs}
use Rattle.units.specs.Tables.{lut_pitch_ratio_high, lut_pitch_ratio_low}
use Rattle.patch.specs.declared.Envelope.{Envelope}
use Rattle.patch.specs.declared.Operator.{Operator}
use Rattle.patch.specs.declared.Patch.{Patch}
use Rattle.patch.specs.Form.{scaling_with, modulations_with}
use Rattle.voice.specs.Voice.{six_of}
use Rattle.voice_render.specs.declared.VoiceParameters.{VoiceParameters}
use Rattle.voice_render.specs.Heard.{output}
use Rattle.theorem_runs.specs.VoiceCalls as voice
use Rattle.theorem_runs.specs.Run.{Call, Start, OfVoice, Answer, FromVoice, FromLfo, number_of, Step, run}
use Rattle.theorem_runs.specs.Good.{fresh}

-- the fastest envelope at one level
abbrev constant : ℕ → Envelope
constant level = record { rate = 99 ∷ 99 ∷ 99 ∷ 99 ∷ []; level = level ∷ level ∷ level ∷ level ∷ [] }

-- an operator at the note's frequency
abbrev plain_operator : ℕ → Operator
plain_operator level = record {
  envelope = constant 99;
  keyboard_scaling = scaling_with (λ n. 0);
  rate_scaling = 0;
  amp_mod_sensitivity = 0;
  velocity_sensitivity = 0;
  level = level;
  mode = 0;
  coarse = 1;
  fine = 0;
  detune = 7;
}

-- six of them, with an even pitch
unfoldable pub patch_of : ℕ → Patch
patch_of level = record {
  op = six_of (plain_operator level);
  pitch_envelope = constant 50;
  algorithm = 0;
  feedback = 0;
  reset_phase = 0;
  modulations = modulations_with (λ n. 0);
  transpose = 24;
  name = 32 ∷ 32 ∷ 32 ∷ 32 ∷ 32 ∷ 32 ∷ 32 ∷ 32 ∷ 32 ∷ 32 ∷ [];
  active_operators = 63;
}

-- note 60 at full velocity
abbrev key_down : VoiceParameters
key_down = record {
  sustain = false;
  gate = true;
  note = decimal 60 0;
  velocity = decimal 1 0;
  brightness = decimal 1 0;
  envelope_control = decimal 5 1;
  pitch_mod = decimal 0 0;
  amp_mod = decimal 0 0;
}

-- two samples of output and three times two of scratch
abbrev silence : List Float
silence = let o = decimal 0 0 in o ∷ o ∷ o ∷ o ∷ o ∷ o ∷ o ∷ o ∷ []

-- a block of two samples, by the built-in tables
unfoldable pub two_samples : Call
two_samples = OfVoice (voice.Render sine_pairs lut_pitch_ratio_high lut_pitch_ratio_low key_down silence)

-- the calls for a patch whose operators have a level
unfoldable pub calls_for : ℕ → List Call
calls_for level =
    Start false 4 (decimal 48000 0)
    ∷ OfVoice (voice.SetPatch (patch_of level) (0x71 ∷ 0x14 ∷ 0x01 ∷ 0x14 ∷ []))
    ∷ two_samples
    ∷ two_samples
    ∷ []

-- the run, from a fresh state
unfoldable pub run_for : ℕ → List Step
run_for level = run (calls_for level) (fresh 4 (decimal 48000 0) (decimal 48000 0))

-- the numbers of a run
unfoldable pub numbers_of : List Step → List ℕ
numbers_of [] = []
numbers_of (t ∷ ts) = number_of t.answer ∷ numbers_of ts

-- the output of a call: nothing where it is no block
abbrev pub output_of : Answer → List Float
output_of (FromVoice (voice.Prepares a)) = []
output_of (FromVoice (voice.Tells a)) = []
output_of (FromVoice (voice.Readies a)) = []
output_of (FromVoice (voice.Renders a)) = output a.block
output_of (FromLfo a) = []

-- the output of a run's last call
unfoldable pub last_output : List Step → List Float
last_output [] = []
last_output (t ∷ []) = output_of t.answer
last_output (t ∷ u ∷ ts) = last_output (u ∷ ts)

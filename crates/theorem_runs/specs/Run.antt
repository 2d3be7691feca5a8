-- A whole run: from a state, any list of calls of a voice and an LFO, accepted or refused, gives for each call its
-- answer, buffers and generator's number included, and the state that the next call gets. Definitions only.
use Rattle.std.specs.Prelude.{ℕ, Bool, cond, ◌||◌, List, [], ◌∷◌, eqb, Float}
use Rattle.refusals.specs.Answer.{number_told, state_after}
use Rattle.lfo_inner.specs.declared.Lfo.{Lfo}
use Rattle.lfo.specs.Answers as LfoAnswers
use Rattle.lfo.specs.Calls as lfo
use Rattle.voice.specs.declared.Voice.{Voice}
use Rattle.voice.specs.Answers.{init_answer}
use Rattle.theorem_runs.specs.VoiceCalls as voice

-- a call of an entry, with its arguments. A start says besides whether the host stores what a refusal hands out, or
-- keeps the voice or the LFO that it has
pub data Call : Type 0 where
  Start : Bool → ℕ → Float → Call
  OfVoice : voice.Call → Call
  StartLfo : Bool → Float → Call
  OfLfo : lfo.Call → Call

-- what the entry answers, as its promise names it
pub data Answer : Type 0 where
  FromVoice : voice.Answer → Answer
  FromLfo : lfo.Answer → Answer

abbrev pub number_of : Answer → ℕ
number_of (FromVoice a) = voice.number_of a
number_of (FromLfo a) = lfo.number_of a

-- what a host keeps between calls; the generator's number is handed in with each call that draws
pub record State : Type 0 where
  pub voice : Voice
  pub lfo : Lfo

-- what a call gives: its answer, and the state after it
pub record Step : Type 0 where
  pub answer : Answer
  pub state : State

abbrev pub with_voice : State → Voice → State
with_voice s v = record { voice = v; lfo = s.lfo }

abbrev pub with_lfo : State → Lfo → State
with_lfo s l = record { voice = s.voice; lfo = l }

-- what is stored after a start: what it hands out, unless it is refused and the host keeps the old
abbrev pub stored : {A : Type 0} → Bool → ℕ → A → A → A
stored stores number new old = cond (stores || eqb number 0) new old

-- one call
unfoldable pub step_of : Call → State → Step
step_of (Start stores operators rate) s =
    let a = init_answer operators rate in
    let v = stored stores (number_told a) (state_after a) s.voice in
    record { answer = FromVoice (voice.Prepares a); state = with_voice s v }
step_of (OfVoice call) s =
    let a = voice.answer_to call s.voice in
    record { answer = FromVoice a; state = with_voice s (voice.voice_after s.voice a) }
step_of (StartLfo stores rate) s =
    let a = LfoAnswers.init_answer rate in
    let l = stored stores (number_told a) (state_after a) s.lfo in
    record { answer = FromLfo (lfo.Prepares a); state = with_lfo s l }
step_of (OfLfo call) s =
    let a = lfo.answer_to call s.lfo in
    record { answer = FromLfo a; state = with_lfo s (lfo.lfo_after s.lfo a) }

-- a list of calls, in order: what each gives, with the state that it leaves
unfoldable pub run : List Call → State → List Step
run [] s = []
run (call ∷ calls) s = step_of call s ∷ run calls (step_of call s).state

-- the last state of a run
unfoldable pub ending : List Call → State → State
ending [] s = s
ending (call ∷ calls) s = ending calls (step_of call s).state

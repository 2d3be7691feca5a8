-- Demand 3: what was left in the work buffers never reaches a sound. Two runs of alike calls from one state are heard
-- alike, refused and blank blocks included. Assumes nothing, of the state or of the calls.
use mathlib.Core.Path.{◌≡◌, refl, ap}
use mathlib.Core.List.{List, [], ◌∷◌, map}
use Rattle.voice_render.specs.Answers.{Answered, voice_rendered}
use Rattle.voice_render.proofs.Alike.{rendered_alike}
use Rattle.theorem_runs.specs.VoiceCalls as voice
use Rattle.theorem_runs.specs.Run.{Call, FromVoice, State, Step, with_voice, step_of, run, ending}
use Rattle.theorem_runs.specs.Alike.{Alike, equal, blocks, AllAlike, none, more, heard}

-- ---- a call, and a run

-- a block's answer stored
abbrev rendered : State → Answered → Step
rendered s a = record { answer = FromVoice (voice.Renders a); state = with_voice s (voice_rendered a.answer) }

pub step_alike : (s : State) {c d : Call} → Alike c d → heard (step_of c s) ≡ heard (step_of d s)
unfolding heard step_of voice.answer_to
step_alike s (equal call) = refl
step_alike s (blocks pairs high low p one other l o) =
    ap (rendered s) (rendered_alike pairs high low s.voice p one other l o)

state_heard : (a b : Step) → heard a ≡ heard b → a.state ≡ b.state
unfolding heard
state_heard a b e = ap (λ (t : Step). t.state) e

pub demand_3 : (s : State) (cs ds : List Call) → AllAlike cs ds → map heard (run cs s) ≡ map heard (run ds s)
unfolding run
demand_3 s [] [] none = refl
demand_3 s [] (d ∷ ds) h = elim h [ ]
demand_3 s (c ∷ cs) [] h = elim h [ ]
demand_3 s (c ∷ cs) (d ∷ ds) (more first rest) =
    let here = step_alike s first in
    let there = state_heard (step_of c s) (step_of d s) here in
    rw (here, there) (ap (λ (l : List Step). heard (step_of d s) ∷ l) (demand_3 (step_of d s).state cs ds rest))

-- and they end in one state
pub ending_alike : (s : State) (cs ds : List Call) → AllAlike cs ds → ending cs s ≡ ending ds s
unfolding ending
ending_alike s [] [] none = refl
ending_alike s [] (d ∷ ds) h = elim h [ ]
ending_alike s (c ∷ cs) [] h = elim h [ ]
ending_alike s (c ∷ cs) (d ∷ ds) (more first rest) =
    rw (state_heard (step_of c s) (step_of d s) (step_alike s first)) (ending_alike (step_of d s).state cs ds rest)

-- The worked cases of document 01, P1 to P15, as rows of one list; P8 to P11 with the marks of document 02's request e.
-- A kind of row has a constructor and a line of `Holds`. Definitions only, all to be believed.
use Rattle.std.specs.Prelude.{◌≡◌, List, [], ◌∷◌, ◌++◌, ℕ, ◌^◌, negsuc, Float, true, false, length, take, Result, Ok, Err}
use Prim.Native.String.{String}
use Rattle.std.specs.Float.{nan, fin}
use Rattle.numbers.specs.F32.{decimal, minus_decimal}
use Rattle.dx_units.specs.Answers.{operator_level_answer, operator_envelope_increment_answer}
use Rattle.dx_units_step.specs.declared.Mark.{Mark}
use Rattle.dx_units_step.specs.declared.Mark.TheVariants.{AsAsked, HeldAtTop, HeldAtZero}
use Rattle.dx_units_step.specs.Step.{stepped_for}
use Rattle.algorithms.specs.Plan.{planned}
use Rattle.algorithms.specs.Table.{six}
use Rattle.algorithms.specs.declared.Call.{Call}
use Rattle.algorithms.specs.declared.Plan.{Plan}
use Rattle.operator.specs.declared.Lane.{Lane}
use Rattle.operator.specs.Sample.{moved}
use Rattle.plan_text.specs.Text.{plan_text}
use Rattle.refusals.specs.declared.Refusal.{Refusal}
use Rattle.refusals.specs.declared.Refusal.TheVariants.{NoRenderer, UnsetBuffer}
use Rattle.refusals.specs.Refusals.{letters}

-- a kind of row: what is given, and the answer that is to come
pub data Case : Type 0 where
  operator_level : ℕ → Result ℕ Refusal → Case
  envelope_rate_of : ℕ → Result Float Refusal → Case
  step : Float → ℕ → Mark → Case
  phase_moved : ℕ → ℕ → ℕ → Case
  row_accepted : List ℕ → List Call → List String → Case
  row_refused : List ℕ → Refusal → Case

-- what a row is compiled to
abbrev pub plan_of : List ℕ → Result Plan Refusal
plan_of row = planned (length row) (six row)

-- an operator as it runs through a block, at a phase and with a step
abbrev lane : ℕ → ℕ → Float → Float → Lane
lane phase by amplitude increment =
    record { phase = phase; amplitude = amplitude; step = by; increment = increment }

-- lines as bytes, each with a newline behind it
unfoldable pub text_of : List String → List ℕ
text_of [] = []
text_of (line ∷ lines) = letters line ++ (10 ∷ text_of lines)

-- a row is accepted, and these are its plan's calls
abbrev pub HasCalls : Result Plan Refusal → List Call → Type 0
HasCalls (Ok p) calls = take p.count p.calls ≡ calls
HasCalls (Err e) calls = ⊥

-- what a row says; of an operator's phase, whatever its amplitude
abbrev pub Holds : Case → Type 0
Holds (operator_level n answer) = operator_level_answer n ≡ answer
Holds (envelope_rate_of n answer) = operator_envelope_increment_answer n ≡ answer
Holds (step frequency answer mark) = stepped_for frequency ≡ record { step = answer; mark = mark }
Holds (phase_moved phase by answer) =
    (amplitude increment : Float) → (moved (lane phase by amplitude increment)).phase ≡ answer
Holds (row_accepted row calls lines) = HasCalls (plan_of row) calls × (plan_text row ≡ text_of lines)
Holds (row_refused row refusal) = plan_of row ≡ Err refusal

-- every row of a list holds
abbrev pub AllHold : List Case → Type 0
AllHold [] = Unit {0}
AllHold (c ∷ cs) = Holds c × AllHold cs

-- a call with the way set, and one with the way add
abbrev sets : ℕ → ℕ → ℕ → ℕ → Call
sets first n input output = record { first = first; n = n; input = input; output = output; add = false }

abbrev adds : ℕ → ℕ → ℕ → ℕ → Call
adds first n input output = record { first = first; n = n; input = input; output = output; add = true }

-- P13's text, as document 01 prints it
abbrev pub printed : List String
printed =
    "row 71 14 01 14"
    ∷ "calls 4"
    ∷ "0 1 feedback 3 1 set"
    ∷ "1 1 external 1 0 add"
    ∷ "2 1 none 0 1 set"
    ∷ "3 1 external 1 0 add"
    ∷ []

abbrev pub cases : List Case
cases =
    operator_level 0 (Ok 0)  -- P1
    ∷ operator_level 14 (Ok 38)  -- P2
    ∷ operator_level 15 (Ok 42)  -- P3
    ∷ operator_level 20 (Ok 48)  -- P4
    ∷ operator_level 99 (Ok 127)  -- P5
    ∷ envelope_rate_of 0 (Ok (fin false 1 (negsuc 19)))  -- P6: 2 ^ -20
    ∷ envelope_rate_of 99 (Ok (decimal 546875 7))  -- P7
    ∷ step (decimal 5 1) (2 ^ 31) AsAsked  -- P8
    ∷ step (decimal 75 2) (2 ^ 31) HeldAtTop  -- P9
    ∷ step (minus_decimal 25 2) 0 HeldAtZero  -- P10
    ∷ step nan (2 ^ 31) HeldAtTop  -- P11
    ∷ phase_moved (2 ^ 31) (2 ^ 31) 0  -- P12
    ∷ row_accepted (0x71 ∷ 0x14 ∷ 0x01 ∷ 0x14 ∷ [])  -- P13
    (sets 0 1 3 1 ∷ adds 1 1 1 0 ∷ sets 2 1 0 1 ∷ adds 3 1 1 0 ∷ []) printed
    ∷ row_refused (0x31 ∷ 0x11 ∷ 0x54 ∷ 0x04 ∷ []) (NoRenderer 0)  -- P14
    ∷ row_refused (0x11 ∷ 0x01 ∷ 0x11 ∷ 0x14 ∷ []) (UnsetBuffer 0)  -- P15
    ∷ []

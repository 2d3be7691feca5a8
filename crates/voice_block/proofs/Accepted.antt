-- What a row's plan meets: what the runner asks, and what demand 3 and the phases ask.
-- Assumes nothing.
use mathlib.Core.Path.{◌≡◌}
use mathlib.Core.Logic.{⊎_elim}
use Prim.Native.Nat.{ℕ, ◌+◌, ◌*◌, ◌/◌, ◌%◌, ◌^◌, ◌≤◌, ◌<◌}
use native.Mathlib.Omega.{arith}
use mathlib.Core.List.{List}
use lib.ListN.{length, get_or, take}
use lib.Ieee.{Float}
use Rattle.algorithms.specs.Plan.{no_call, planned}
use Rattle.algorithms.specs.Accepted.{Sound}
use Rattle.std.specs.Prelude.{Ok}
use Rattle.algorithms.specs.declared.Call.{Call}
use Rattle.algorithms.specs.declared.Plan.{Plan}
use Rattle.algorithms.proofs.Accepted.{planned_safe, planned_sound, planned_some, planned_few, accepted_six}
use Rattle.algorithms.proofs.Accepted.{accepted_covering}
use Rattle.voice_block.specs.Calls.{no_operator, Callable, Playable, ran}
use Rattle.voice_block.specs.declared.Operators.{Operators}
use Rattle.voice_block.proofs.Same.{same_sound}
use Rattle.voice_block.proofs.Phases.{plan_phases, plan_others}

callable : (operators : ℕ) (c : Call) → operators ≤ 6 → 1 ≤ c.n → Sound operators c → Callable c
callable operators c h some s = record {
  input = s.input;
  output = s.output;
  some = some;
  few = ⊎_elim (λ e. omega arith) (λ x. x.few) s.chain;
  within = omega (arith, s.within);
  single = λ z. ⊎_elim (λ e. e) (λ x. absurd (z x.fed)) s.chain;
}

module _ (operators : ℕ) (row : List ℕ) (p : Plan) (e : planned operators row ≡ Ok p) where
  -- what the runner requires
  pub accepted_playable : Playable p
  accepted_playable =
      let six = accepted_six operators row p e in
      record {
        most = omega (arith, planned_few operators row p e);
        calls = λ k i. callable operators (get_or p.calls k no_call) six
            (planned_some operators row p e k i) (planned_sound operators row p e k i);
      }

  module _ (pairs : List Float) (steps : List ℕ) (targets : List Float) (amount : ℕ) (v : Operators)
      (block : List Float) where
    -- the kernel of demand 3
    pub planned_same : (other : List Float) → length block ≡ length other
        → take (length block / 4) block ≡ take (length block / 4) other
        → ((ran pairs p steps targets amount v block).operators ≡ (ran pairs p steps targets amount v other).operators)
        × (take (length block / 4) (ran pairs p steps targets amount v block).block
        ≡ take (length block / 4) (ran pairs p steps targets amount v other).block)
    planned_same other h f =
        same_sound pairs p steps targets amount v block other (planned_safe operators row p e) h f

    module _ (l : length row ≡ 6) (six : length v.operator ≡ 6) (whole : length block % 4 ≡ 0) (j : ℕ) where
      -- the phases of the row's operators
      pub accepted_phases : j < operators → (get_or v.operator j no_operator).phase < 2 ^ 32
          → (get_or (ran pairs p steps targets amount v block).operators.operator j no_operator).phase
          ≡ ((get_or v.operator j no_operator).phase + length block / 4 * get_or steps j 0) % 2 ^ 32
      accepted_phases =
          plan_phases pairs p steps targets amount operators v block (accepted_covering operators row p e l)
          (planned_sound operators row p e) (omega (arith, accepted_six operators row p e)) whole j

      -- and the operators behind them
      pub accepted_others : operators ≤ j
          → get_or (ran pairs p steps targets amount v block).operators.operator j no_operator
          ≡ get_or v.operator j no_operator
      accepted_others =
          plan_others pairs p steps targets amount operators v block (accepted_covering operators row p e l)
          (planned_sound operators row p e) (omega (arith, accepted_six operators row p e)) whole j

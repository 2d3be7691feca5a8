-- What every accepted plan keeps to: its calls cover the operators, have renderers, and read and add to ready buffers
-- only. Definitions that theorems speak in; no answer is made of them.
use Rattle.std.specs.Prelude.{ℕ, zero, suc, ◌+◌, ◌≤◌, ◌<◌, ◌≡◌, true, ◌⊎◌, List, get_or, drop}
use Rattle.algorithms.specs.Chain.{rendered}
use Rattle.algorithms.specs.Plan.{no_call, call_of, reading, ready}
use Rattle.algorithms.specs.declared.Call.{Call}

-- where the first k calls end
unfoldable pub covered : List Call → ℕ → ℕ
covered cs zero = 0
covered cs (suc k) = (get_or cs k no_call).first + (get_or cs k no_call).n

-- the calls are in row order, each with an operator or more, from where the call before it ends, and they end at the
-- last operator
pub record Covering (cs : List Call) (count operators : ℕ) : Type 0 where
  pub starts : (k : ℕ) → k < count → (get_or cs k no_call).first ≡ covered cs k
  pub some : (k : ℕ) → k < count → 1 ≤ (get_or cs k no_call).n
  pub whole : covered cs count ≡ operators

-- operator j is in call k
pub record In (cs : List Call) (k j : ℕ) : Type 0 where
  pub from : (get_or cs k no_call).first ≤ j
  pub to : j < (get_or cs k no_call).first + (get_or cs k no_call).n

-- call k reads a buffer, and adds to one, only where that is the output or an earlier call has set it
pub record Safe (cs : List Call) (k : ℕ) : Type 0 where
  pub reads : reading (get_or cs k no_call) ≡ true → ready cs k (get_or cs k no_call).input ≡ true
  pub adds : (get_or cs k no_call).add ≡ true → ready cs k (get_or cs k no_call).output ≡ true

-- a chain of several operators is one of 2 or 3 of six operators, with feedback and the way add
pub record Several (operators : ℕ) (c : Call) : Type 0 where
  pub six : operators ≡ 6
  pub few : c.n ≤ 3
  pub fed : c.input ≡ 3
  pub adds : c.add ≡ true

-- a call among four buffers and the row's operators, of one operator or several
pub record Sound (operators : ℕ) (c : Call) : Type 0 where
  pub input : c.input < 4
  pub output : c.output < 4
  pub within : c.first + c.n ≤ operators
  pub chain : (c.n ≡ 1) ⊎ Several operators c

-- a call takes the operators that are rendered together from its first one on; `os` is the whole row
abbrev pub Made : ℕ → List ℕ → Call → Type 0
Made operators os c = c ≡ call_of c.first (rendered operators (drop c.first os)) (drop c.first os)

-- How the code renders a modulated block by parts; what a renderer promises is said in Chain without it. Definitions
-- only.
use Rattle.std.specs.Prelude.{ℕ, zero, suc, ◌+◌, ◌<◌, ◌≡◌, Bool, true, ◌&&◌, List, [], ◌∷◌, ◌++◌, get_or, length, take}
use Rattle.std.specs.Prelude.{drop, Float}
use Rattle.std.specs.Float.{nan}
use Rattle.numbers.specs.Words.{sum32}
use Rattle.sine.specs.Sine.{near_by, modulated}
use Rattle.operator.specs.Chain.{Source, Chain, written, ended}

-- whether each modulation lies from -31 to 30 turns
unfoldable pub all_near : List Float → Bool
all_near [] = true
all_near (pm ∷ pms) = near_by pm && all_near pms

-- a phase so many steps on, wrapped
unfoldable pub stepped : ℕ → ℕ → ℕ → ℕ
stepped zero phase step = phase
stepped (suc k) phase step = sum32 (stepped k phase step) step

-- the first n of `at` are the modulated phases from sample i on, of an operator that comes with this phase
pub record Placed (modulation : List Float) (i n phase step : ℕ) (at : List ℕ) : Type 0 where
  pub placed : (k : ℕ) → k < n → get_or at k 0 ≡ modulated (stepped (k + 1) phase step) (get_or modulation (i + k) nan)

-- the chain s at sample i of `out` and the chain t at sample j of `after` come to the same samples and to the same end
pub record Going (pairs : List Float) (source : Source) (add : Bool)
    (i : ℕ) (s : Chain) (out : List Float) (j : ℕ) (t : Chain) (after : List Float) : Type 0 where
  pub samples : take j after ++ written pairs source add j t (drop j after)
      ≡ take i out ++ written pairs source add i s (drop i out)
  pub chains : ended pairs source (length (drop j after)) j t ≡ ended pairs source (length (drop i out)) i s
  pub size : length after ≡ length out

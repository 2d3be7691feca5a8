-- The levels and increments of an envelope's stages, after envelope.rs, with one rounding per written operation.
-- Definitions only, all to be believed.
use Rattle.std.specs.Prelude.{Bool, ◌&&◌, cond, List, [], ◌∷◌, ℕ, ◌+◌, ◌-◌, ◌*◌, ◌/◌, ◌%◌, ◌≤◌, eqb, ltb, get_or, Float}
use Rattle.std.specs.Float.{nan}
use Rattle.std.specs.Float.Ieee.{lt, eq, ne}
use Rattle.numbers.specs.F32.{◌⊖◌, ◌⊗◌, ◌⊘◌, decimal, as_float}
use Rattle.numbers.specs.Extremes.{maximum, magnitude}
use Rattle.dx_units_inner.specs.Units.{operator_level, operator_envelope_increment}
use Rattle.dx_units_inner.specs.Units.{pitch_envelope_level, pitch_envelope_increment}

-- one number for each of the four stages
abbrev pub per_stage : (ℕ → Float) → List Float
per_stage f = f 0 ∷ f 1 ∷ f 2 ∷ f 3 ∷ []

-- the level before a stage's; the first's is the last
abbrev pub level_before : List Float → ℕ → Float
level_before levels stage = get_or levels ((stage + 3) % 4) nan

-- the old chip's envelope jumps up to this level when it rises
unfoldable pub jump : Float
jump = decimal 67 1

-- ---- operators

-- four levels that the chart has
abbrev pub OnChart : List ℕ → Type 0
OnChart level = (get_or level 0 0 ≤ 99) × (get_or level 1 0 ≤ 99) × (get_or level 2 0 ≤ 99) × (get_or level 3 0 ≤ 99)

-- an eighth of the converted level, made even, plus the global level less 133; of a half where that is below 1. 125
-- might be expected in place of 133, which the Rust remarks and leaves
unfoldable pub operator_stage_level : ℕ → ℕ → Float
operator_stage_level level global_level =
    let scaled = operator_level level / 2 * 2 + global_level in
    decimal 125 3 ⊗ cond (ltb scaled 134) (decimal 5 1) (as_float (scaled - 133))

-- a rising stage: where both ends are lifted to 6.7 it is over at once, and its shape makes it faster otherwise
unfoldable pub rising_increment : Float → Float → Float → Float
rising_increment increment from to =
    let low = maximum jump from in
    let high = maximum jump to in
    cond (eq low high) (decimal 1 0) (increment ⊗ (decimal 72 1 ⊘ (high ⊖ low)))

-- a plateau has a rate of its own, and a fast one is twenty times as fast; a falling stage's goes by its height
unfoldable pub operator_stage_increment : ℕ → Float → Float → Bool → Float
operator_stage_increment rate from to fast =
    let increment = operator_envelope_increment rate in
    cond (eq from to) (cond fast (increment ⊗ decimal 6 1 ⊗ decimal 20 0) (increment ⊗ decimal 6 1))
    (cond (lt from to) (rising_increment increment from to) (increment ⊗ (decimal 1 0 ⊘ (from ⊖ to))))

unfoldable pub operator_levels : List ℕ → ℕ → List Float
operator_levels level global_level = per_stage (λ i. operator_stage_level (get_or level i 0) global_level)

-- the first stage is fast where its level is 0
unfoldable pub operator_increments : List ℕ → List Float → Bool → Float → List Float
operator_increments rate levels fast scale =
    per_stage (λ i.
    operator_stage_increment (get_or rate i 0) (level_before levels i) (get_or levels i nan) (eqb i 0 && fast) ⊗ scale)

-- ---- pitch

-- a stage's rate goes by its height; a plateau has the same everywhere but in the last stage
unfoldable pub pitch_stage_increment : ℕ → Float → Float → Bool → Float
pitch_stage_increment rate from to last =
    let increment = pitch_envelope_increment rate in
    cond (ne from to) (increment ⊗ (decimal 1 0 ⊘ magnitude (from ⊖ to))) (cond last increment (decimal 2 1))

unfoldable pub pitch_levels : List ℕ → List Float
pitch_levels level = per_stage (λ i. pitch_envelope_level (get_or level i 0))

unfoldable pub pitch_increments : List ℕ → List Float → Float → List Float
pitch_increments rate levels scale =
    per_stage
    (λ i. pitch_stage_increment (get_or rate i 0) (level_before levels i) (get_or levels i nan) (eqb i 3) ⊗ scale)

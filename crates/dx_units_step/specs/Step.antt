-- The step for a frequency and its mark: one rounding per written operation, in the Rust's order. To be believed.
use Rattle.std.specs.Prelude.{ℕ, cond, ◌||◌, Float}
use Rattle.std.specs.Float.Ieee.{lt, is_nan, to_unsigned}
use Rattle.numbers.specs.F32.{◌⊗◌, decimal}
use Rattle.numbers.specs.Extremes.{minimum}
use Rattle.dx_units_step.specs.declared.Mark.{Mark}
use Rattle.dx_units_step.specs.declared.Mark.TheVariants.{AsAsked, HeldAtTop, HeldAtZero}
use Rattle.dx_units_step.specs.declared.Stepped.{Stepped}

-- the step of a phase of 32 bits for a frequency in turns a sample: at most a half, which a NaN counts as, times
-- 2 ^ 32, as u32
unfoldable pub step_for : Float → ℕ
step_for frequency = to_unsigned 32 (minimum frequency (decimal 5 1) ⊗ decimal 4294967296 0)

-- the mark of a frequency: held at the top above 0.5 or at a NaN, held at zero below 0, else as asked
unfoldable pub mark_for : Float → Mark
mark_for frequency =
    cond (lt (decimal 5 1) frequency || is_nan frequency) HeldAtTop
    (cond (lt frequency (decimal 0 0)) HeldAtZero AsAsked)

-- the step and its mark
abbrev pub stepped_for : Float → Stepped
stepped_for frequency = record { step = step_for frequency; mark = mark_for frequency }

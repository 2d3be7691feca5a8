-- An accepted step, scrub or reset leaves a state that 9 accepts, and so does setting where the product of its
-- frequencies is finite and not negative, as it is for a sample rate from 8,000 to 192,000. Assumes nothing.
use mathlib.Core.Path.{◌≡◌}
use mathlib.Core.Bool.{Bool, true, false, ◌&&◌, cond}
use mathlib.Core.List.{List}
use Prim.Native.Nat.{ℕ, ◌*◌, ◌≤◌, ◌<◌}
use native.Mathlib.Nat.{mul-pos}
use native.Mathlib.Omega.{arith}
use lib.Dec.{T, ltb→lt}
use lib.IntN.{pos, negsuc}
use lib.Ieee.{Float, nan, inf, fin, binary32, up, down, lt, le, fits, mul, div, round, of_int, to_signed}
use lib.Ieee.Bits.{is_true}
use lib.Ieee.Fits.{and_i, and_l, and_r, add-fits, sub-fits, mul-fits, cond-fits, up_pos}
use lib.Ieee.Order.{round_mono}
use lib.Ieee.Positive.{positive, between, mul_mono, le→cross}
use lib.Ieee.Scale.{finite}
use borrow.Author.Tests.{ne_eqb}
use Rattle.numbers.specs.F32.{◌⊕◌, ◌⊖◌, ◌⊗◌, ◌⊘◌, decimal}
use Rattle.numbers.proofs.Below.{all_below, at_each}
use Rattle.dx_units_inner.specs.Units.{lfo_frequency, lfo_steps}
use Rattle.patch.specs.declared.ModulationParameters.{ModulationParameters}
use Rattle.lfo_inner.specs.declared.Lfo.{Lfo}
use Rattle.lfo_inner.specs.declared.Motion.{Motion}
use Rattle.lfo_inner.specs.Lfo.{moved_to, valued, adjusted, restarted, wrapped, stepped, scrubbed, settled}
use Rattle.patch_limits.specs.Ranges.{sample_rate_fits}
use Rattle.std.specs.Prelude.{Ok}
use Rattle.refusals.specs.declared.Refusal.TheVariants.{Parameter}
use Rattle.refusals.specs.Answer.{refused, state_after}
use Rattle.lfo.specs.Answers.{from_zero, state_fits, step_fits, scrub_fits, step_answer, scrub_answer}
use Rattle.lfo.specs.Calls.{beside, one_hz_fits}
use Rattle.lfo.proofs.Phases.{FromZero, plus, is_from_zero, under_from_zero, from_zero_le, from_zero_finite, Part}
use Rattle.lfo.proofs.Phases.{is_part, part_from_zero, part_below_one, parts_add, sum_wraps, product_at_least}
use Rattle.lfo.proofs.Phases.{below_power, when_finite, past_whole_lem}

-- ---- the tests, taken apart and put together

from_zero_lem : (x : Float) → T (from_zero x) → FromZero x
unfolding from_zero decimal
from_zero_lem x t = is_from_zero x (is_true _ (and_l (le (decimal 0 0) x) (finite x) t))
    (and_r (le (decimal 0 0) x) (finite x) t)

to_from_zero : (x : Float) → FromZero x → T (from_zero x)
unfolding from_zero decimal
to_from_zero x f = and_i (le (decimal 0 0) x) (finite x) (from_zero_le x f) (from_zero_finite x f)

accepted_with : (lfo : Lfo) → Part lfo.phase → FromZero lfo.frequency → T (state_fits lfo)
unfolding state_fits decimal
accepted_with lfo p f =
    and_i (le (decimal 0 0) lfo.phase && lt lfo.phase (decimal 1 0)) (from_zero lfo.frequency)
    (and_i (le (decimal 0 0) lfo.phase) (lt lfo.phase (decimal 1 0))
    (from_zero_le lfo.phase (part_from_zero lfo.phase p)) (part_below_one lfo.phase p))
    (to_from_zero lfo.frequency f)

-- the stored value counts for nothing
settled_accepted : (lut : List Float) (m : Motion) → T (state_fits m.lfo) → T (state_fits (settled lut m).lfo)
unfolding settled valued state_fits
settled_accepted lut m t = t

module _ (lfo : Lfo) (t : T (state_fits lfo)) where
  phase_in_range : T (le (decimal 0 0) lfo.phase && lt lfo.phase (decimal 1 0))
  unfolding state_fits
  phase_in_range = and_l (le (decimal 0 0) lfo.phase && lt lfo.phase (decimal 1 0)) (from_zero lfo.frequency) t

  frequency_fits_lem : T (from_zero lfo.frequency)
  unfolding state_fits
  frequency_fits_lem = and_r (le (decimal 0 0) lfo.phase && lt lfo.phase (decimal 1 0)) (from_zero lfo.frequency) t

  pub phase_part : T (fits binary32 lfo.phase) → Part lfo.phase
  unfolding decimal
  phase_part f =
      let x = lfo.phase in
      let low = le (decimal 0 0) x in
      let high = lt x (decimal 1 0) in
      let g = is_true low (and_l low high phase_in_range) in
      let h = is_true high (and_r low high phase_in_range) in
      is_part x f (under_from_zero 0 x g h) h

  -- ---- a step, a scrub and a reset

  module _ (state : ℕ) where
    step_part : (scale : Float) → T (fits binary32 lfo.phase) → T (step_fits lfo scale)
        → Part (wrapped (lfo.phase ⊕ scale ⊗ lfo.frequency))
    unfolding step_fits wrapped decimal
    step_part scale f s =
        let p = scale ⊗ lfo.frequency in
        let h = is_true (lt p (decimal 1 0)) (and_r (from_zero scale) (lt p (decimal 1 0)) s) in
        let z = below_power 0 p
        (product_at_least scale lfo.frequency
        (from_zero_lem scale (and_l (from_zero scale) (lt p (decimal 1 0)) s))
        (from_zero_lem lfo.frequency frequency_fits_lem)) h in
        sum_wraps (lfo.phase ⊕ p)
        (parts_add lfo.phase p (phase_part f) (is_part p (mul-fits binary32 scale lfo.frequency) z h))

    pub step_leaves_accepted : (scale : Float) → T (fits binary32 lfo.phase) → T (step_fits lfo scale)
        → T (state_fits (stepped lfo state scale).lfo)
    unfolding stepped moved_to
    step_leaves_accepted scale f s =
        accepted_with (stepped lfo state scale).lfo (step_part scale f s)
        (from_zero_lem lfo.frequency frequency_fits_lem)

    scrub_part : (sample : Float) → T (scrub_fits lfo sample)
        → Part (sample ⊗ lfo.frequency ⊖ of_int binary32 (to_signed 31 (sample ⊗ lfo.frequency)))
    unfolding scrub_fits decimal
    scrub_part sample s =
        let p = sample ⊗ lfo.frequency in
        let limit = decimal 2147483648 0 in
        let h = is_true (lt p limit) (and_r (from_zero sample) (lt p limit) s) in
        let z = below_power 31 p
        (product_at_least sample lfo.frequency (from_zero_lem sample (and_l (from_zero sample) (lt p limit) s))
        (from_zero_lem lfo.frequency frequency_fits_lem)) h in
        past_whole_lem p (mul-fits binary32 sample lfo.frequency) z h

    pub scrub_leaves_accepted : (sample : Float) → T (scrub_fits lfo sample)
        → T (state_fits (scrubbed lfo state sample).lfo)
    unfolding scrubbed moved_to
    scrub_leaves_accepted sample s =
        accepted_with (scrubbed lfo state sample).lfo (scrub_part sample s)
        (from_zero_lem lfo.frequency frequency_fits_lem)

    -- the whole answers, the refusal 7 included
    answered : (lut : List Float) (m : Motion) (b : Bool) → (T b → T (state_fits m.lfo))
        → T (state_fits (state_after (cond b (Ok (settled lut m)) (refused Parameter (beside lfo state)))).lfo)
    answered lut m true k = settled_accepted lut m (k tt)
    answered lut m false k = t

    pub step_keeps_accepted : (lut : List Float) (scale : Float) → T (fits binary32 lfo.phase)
        → T (state_fits (state_after (step_answer lut (beside lfo state) scale)).lfo)
    unfolding step_answer
    step_keeps_accepted lut scale f =
        rw (is_true (state_fits lfo) t)
        (answered lut (stepped lfo state scale) (step_fits lfo scale) (step_leaves_accepted scale f))

    pub scrub_keeps_accepted : (lut : List Float) (sample : Float)
        → T (state_fits (state_after (scrub_answer lut (beside lfo state) sample)).lfo)
    unfolding scrub_answer
    scrub_keeps_accepted lut sample =
        rw (is_true (state_fits lfo) t)
        (answered lut (scrubbed lfo state sample) (scrub_fits lfo sample) (scrub_leaves_accepted sample))

  pub reset_leaves_accepted : T (state_fits (restarted lfo))
  unfolding restarted moved_to state_fits decimal le lt
  reset_leaves_accepted = go lfo.reset_phase
    where
      go : (b : Bool) → T (le (decimal 0 0) (cond b (decimal 0 0) lfo.phase)
          && lt (cond b (decimal 0 0) lfo.phase) (decimal 1 0) && from_zero lfo.frequency)
      go true = frequency_fits_lem
      go false = t

  -- ---- setting

  -- it leaves an accepted state exactly where the product of the frequencies is finite and not negative
  pub set_leaves_accepted : (m : ModulationParameters) → state_fits (adjusted lfo m)
      ≡ from_zero (lfo_frequency m.rate ⊗ lfo.one_hz)
  unfolding state_fits adjusted
  set_leaves_accepted m = simp (is_true (le (decimal 0 0) lfo.phase && lt lfo.phase (decimal 1 0)) phase_in_range)

-- what a step, a scrub and a reset leave is an f32
pub step_phase_fits : (lfo : Lfo) (state : ℕ) (scale : Float) → T (fits binary32 (stepped lfo state scale).lfo.phase)
unfolding stepped moved_to wrapped
step_phase_fits lfo state scale =
    let y = lfo.phase ⊕ scale ⊗ lfo.frequency in
    cond-fits binary32 (le (decimal 1 0) y) (y ⊖ decimal 1 0) y (sub-fits binary32 y (decimal 1 0))
    (add-fits binary32 lfo.phase (scale ⊗ lfo.frequency))

pub scrub_phase_fits : (lfo : Lfo) (state : ℕ) (sample : Float)
    → T (fits binary32 (scrubbed lfo state sample).lfo.phase)
unfolding scrubbed moved_to
scrub_phase_fits lfo state sample =
    sub-fits binary32 (sample ⊗ lfo.frequency) (of_int binary32 (to_signed 31 (sample ⊗ lfo.frequency)))

pub reset_phase_fits : (lfo : Lfo) → T (fits binary32 lfo.phase) → T (fits binary32 (restarted lfo).phase)
unfolding restarted moved_to decimal fits
reset_phase_fits lfo f = cond-fits binary32 lfo.reset_phase (decimal 0 0) lfo.phase tt f

-- ---- a sample's part of a second, and the product of the frequencies

-- the frequencies of the hundred rates lie from 1 / 16 to 32
rate_in_range : ℕ → Bool
unfolding lfo_frequency lfo_steps decimal mul of_int
rate_in_range n = positive (lfo_frequency n) && le (fin false 1 (negsuc 3)) (lfo_frequency n)
    && le (lfo_frequency n) (fin false 1 (pos 5))

every_rate : T (all_below rate_in_range 100)
unfolding rate_in_range all_below lfo_frequency lfo_steps decimal mul of_int round le lt
every_rate = tt

rate_in_range_lem : (n : ℕ) → n ≤ 99 → T (positive (lfo_frequency n))
    × T (le (fin false 1 (negsuc 3)) (lfo_frequency n)) × T (le (lfo_frequency n) (fin false 1 (pos 5)))
unfolding rate_in_range
rate_in_range_lem n h =
    let r = at_each rate_in_range 100 every_rate n (omega arith) in
    let a = positive (lfo_frequency n) in
    let b = le (fin false 1 (negsuc 3)) (lfo_frequency n) in
    let c = le (lfo_frequency n) (fin false 1 (pos 5)) in
    let q = and_l (a && b) c r in
    (and_l a b q, and_r a b q, and_r (a && b) c r)

-- finite and above 0
pub positive_from_zero : (x : Float) → T (positive x) → FromZero x
positive_from_zero nan p = absurd p
positive_from_zero (inf s) p = absurd p
positive_from_zero (fin true m e) p = absurd p
positive_from_zero (fin false m e) p = plus m e

-- a sample's part of a second at the highest rate, and at the lowest
abbrev shortest : Float
shortest = decimal 1 0 ⊘ decimal 192000 0

abbrev longest : Float
longest = decimal 1 0 ⊘ decimal 8000 0

shortest_positive : T (positive shortest)
unfolding decimal div round
shortest_positive = tt

longest_positive : T (positive longest)
unfolding decimal div round
longest_positive = tt

products_positive : T (positive (fin false 1 (negsuc 3) ⊗ shortest)) × T (positive (fin false 1 (pos 5) ⊗ longest))
unfolding decimal div mul round
products_positive = (tt, tt)

-- for any part of a second that is finite and not negative, the product is not negative
pub frequency_product_finite : (n : ℕ) (h : Float) → n ≤ 99 → T (from_zero h) → T (finite (lfo_frequency n ⊗ h))
    → T (from_zero (lfo_frequency n ⊗ h))
frequency_product_finite n h l t f =
    to_from_zero (lfo_frequency n ⊗ h)
    (when_finite (lfo_frequency n ⊗ h)
    (product_at_least (lfo_frequency n) h (positive_from_zero (lfo_frequency n) (rate_in_range_lem n l).0)
    (from_zero_lem h t)) f)

-- and for one that a fresh LFO has it is finite too
pub frequency_product : (n : ℕ) (h : Float) → n ≤ 99 → T (one_hz_fits h) → T (from_zero (lfo_frequency n ⊗ h))
unfolding one_hz_fits
frequency_product n h l t =
    let low = and_l (le shortest h) (le h longest) t in
    let high = and_r (le shortest h) (le h longest) t in
    let f = lfo_frequency n in
    let r = rate_in_range_lem n l in
    let p = between shortest h longest shortest_positive longest_positive low high in
    let a = mul_mono binary32 (fin false 1 (negsuc 3)) f shortest h tt r.0 shortest_positive p r.1 low in
    let b = mul_mono binary32 f (fin false 1 (pos 5)) h longest r.0 tt p longest_positive r.2 high in
    to_from_zero (f ⊗ h)
    (positive_from_zero (f ⊗ h)
    (between (fin false 1 (negsuc 3) ⊗ shortest) (f ⊗ h)
    (fin false 1 (pos 5) ⊗ longest) products_positive.0 products_positive.1 a b))

-- the reciprocal of a positive number, from those at both ends
reciprocal : (x : Float) → T (positive x) → T (le (decimal 8000 0) x) → T (le x (decimal 192000 0))
    → T (le shortest (decimal 1 0 ⊘ x)) × T (le (decimal 1 0 ⊘ x) longest)
unfolding decimal div
reciprocal nan p g h = absurd p
reciprocal (inf s) p g h = absurd p
reciprocal (fin true m e) p g h = absurd p
reciprocal (fin false m e) p g h =
    let o = ltb→lt 0 m p in
    let a = le→cross (fin false 125 (pos 6)) (fin false m e) tt p g in
    let b = le→cross (fin false m e) (fin false 375 (pos 9)) p tt h in
    let d : 0 < m * up e * 1 = (let z = mul-pos o (up_pos e) in omega arith) in
    rw (ne_eqb m 0 (λ q. omega arith)) (
      round_mono binary32 1 192000 (1 * down e) (m * up e * 1) (omega arith) d (omega arith),
      round_mono binary32 (1 * down e) (m * up e * 1) 1 8000 d (omega arith) (omega arith),
    )

rates_positive : T (positive (decimal 8000 0)) × T (positive (decimal 192000 0))
unfolding decimal
rates_positive = (tt, tt)

pub init_one_hz : (rate : Float) → T (sample_rate_fits rate) → T (one_hz_fits (decimal 1 0 ⊘ rate))
unfolding sample_rate_fits one_hz_fits
init_one_hz rate t =
    let low = and_l (le (decimal 8000 0) rate) (le rate (decimal 192000 0)) t in
    let high = and_r (le (decimal 8000 0) rate) (le rate (decimal 192000 0)) t in
    let r = reciprocal rate
    (between (decimal 8000 0) rate (decimal 192000 0) rates_positive.0 rates_positive.1 low high) low high in
    and_i (le shortest (decimal 1 0 ⊘ rate)) (le (decimal 1 0 ⊘ rate) longest) r.0 r.1

-- The sine of an LFO's phase and a half turn is from -1 to 1, since that sum is no NaN. Assumes nothing.
use mathlib.Core.Path.{◌≡◌}
use mathlib.Core.Bool.{true, false}
use Prim.Native.Nat.{◌*◌}
use native.Mathlib.Omega.{arith}
use lib.IntN.{negsuc}
use lib.Ieee.{Float, fin, up, down, add, is_nan}
use lib.Ieee.Fits.{down_pos}
use Rattle.numbers.specs.F32.{◌⊕◌}
use Rattle.numbers.proofs.Rounded.{sum_number}
use Rattle.numbers.proofs.Sizes.{Held, Share, share, no_share}
use Rattle.sine.specs.Table.{lut_sine}
use Rattle.sine.specs.Sine.{sine_of}
use Rattle.sine.proofs.Places.{sine_held}
use Rattle.lfo.proofs.Phases.{Part, part, no_part}

pub part_share : (x : Float) → Part x → Share x
part_share _ (part m e h) = share m e (let p = down_pos e in omega arith)
part_share _ (no_part e) = no_share e

half_on : (x : Float) → Part x → is_nan (x ⊕ fin false 1 (negsuc 0)) ≡ false
unfolding add
half_on _ (part m e h) = sum_number false (m * up e * 2) false (1 * 1 * down e) (down e * 2)
half_on _ (no_part e) = sum_number true (0 * up e * 2) false (1 * 1 * down e) (down e * 2)

pub sine_small : (phase : Float) → Part phase → Held 1 1 (sine_of lut_sine (phase ⊕ fin false 1 (negsuc 0)))
sine_small phase p = sine_held (phase ⊕ fin false 1 (negsuc 0)) (half_on phase p)

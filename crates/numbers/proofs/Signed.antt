-- A signed number read back from its 32 bits. Assumes nothing.
use Rattle.std.proofs.Common.{◌≡◌, ◌^◌, ◌<◌, ℤ, w32, to_z, of_z}
use lib.Signed.{mag}
use mir.ValLaws.{to_z-of_z}

pub back : (z : ℤ) → mag z < 2 ^ 31 → to_z w32 (of_z w32 z) ≡ z
back z h = to_z-of_z w32 z (record { sfits = h })

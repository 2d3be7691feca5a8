-- What a patch's check says of packing it. Assumes nothing.
use mathlib.Core.Path.{◌≡◌, refl}
use mathlib.Core.Bool.{Bool, true, false}
use Rattle.std.specs.Prelude.{Ok, Err}
use Rattle.refusals.specs.declared.Refusal.{Refusal}
use Rattle.patch.specs.declared.Patch.{Patch}
use Rattle.patch.specs.Packed.{patch_fits, check_of}
use Rattle.patch_packer.specs.Packing.{packed, pack_of}

module _ (p : Patch) where
  pub checked_fits : (u : Unit {0}) → check_of p ≡ Ok u → patch_fits p ≡ true
  unfolding check_of
  checked_fits u e = go (patch_fits p) refl
    where
      go : (b : Bool) → patch_fits p ≡ b → patch_fits p ≡ true
      go true h = h
      go false h = let z = rw h at e in cc

  pub packed_when : patch_fits p ≡ true → pack_of p ≡ Ok (packed p)
  unfolding pack_of
  packed_when h = rw h

  pub refused_when : (e : Refusal) → check_of p ≡ Err e → pack_of p ≡ Err e
  unfolding check_of pack_of
  refused_when e h = go (patch_fits p) refl
    where
      go : (b : Bool) → patch_fits p ≡ b → pack_of p ≡ Err e
      go true f = let z = rw f at h in cc
      go false f = let z = rw f at h in rw f (cc)

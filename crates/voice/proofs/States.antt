-- What a state has that 9 accepts. Assumes nothing.
use mathlib.Core.Path.{◌≡◌, refl, ap, subst}
use mathlib.Core.Bool.{Bool, true, false, cond, ◌&&◌}
use mathlib.Core.List.{List}
use Prim.Native.Nat.{ℕ, ◌≤◌, ◌<◌}
use lib.Dec.{T, leb→le}
use lib.Ieee.Bits.{is_true}
use Rattle.std.specs.Prelude.{Result, Ok, Err}
use Rattle.refusals.specs.declared.Refusal.{Refusal}
use lib.Ieee.Fits.{and_l, and_r}
use Rattle.patch.specs.declared.Patch.{Patch}
use Rattle.patch.specs.Packed.{patch_fits}
use Rattle.algorithms.specs.declared.Plan.{Plan}
use Rattle.algorithms.specs.Plan.{counted, planned, same_plan, is_plan, is_plan_of}
use Rattle.algorithms.proofs.Same.{same_plan_equal}
use Rattle.envelope_inner.specs.Envelope.{is_stage, all_stages}
use Rattle.voice.specs.declared.Voice.{Voice}
use Rattle.voice.specs.Answers.{patch_sound, state_fits}

pub record Sound (operators : ℕ) (p : Patch) (row : List ℕ) (plan : Plan) : Type 0 where
  pub fits : T (patch_fits p)
  pub accepted : planned operators row ≡ Ok plan

is_plan_lem : (r : Result Plan Refusal) (plan : Plan) → T (is_plan r plan) → r ≡ Ok plan
unfolding is_plan
is_plan_lem (Ok p) plan t = ap Ok (same_plan_equal p plan (is_true (same_plan p plan) t))
is_plan_lem (Err e) plan t = absurd t

pub patch_sound_lem : (operators : ℕ) (p : Patch) (row : List ℕ) (plan : Plan) → T (patch_sound operators p row plan)
    → Sound operators p row plan
unfolding patch_sound is_plan_of
patch_sound_lem operators p row plan t =
    let a = patch_fits p in
    let b = is_plan (planned operators row) plan in
    record { fits = and_l a b t; accepted = is_plan_lem (planned operators row) plan (and_r a b t) }

pub record Fits (v : Voice) : Type 0 where
  pub count : T (counted v.operators)
  pub stages : T (all_stages v.operator_envelope)
  pub pitch : v.pitch_envelope.stage ≤ 3
  pub patched : T (cond v.has_patch (patch_sound v.operators v.patch v.row v.plan) v.dirty)

pub state_fits_lem : (v : Voice) → T (state_fits v) → Fits v
unfolding state_fits
state_fits_lem v t =
    let a = counted v.operators in
    let b = all_stages v.operator_envelope in
    let c = is_stage v.pitch_envelope.stage in
    let d = cond v.has_patch (patch_sound v.operators v.patch v.row v.plan) v.dirty in
    let tb = and_r a (b && (c && d)) t in
    let tc = and_r b (c && d) tb in
    record {
      count = and_l a (b && (c && d)) t;
      stages = and_l b (c && d) tb;
      pitch = leb→le v.pitch_envelope.stage 3 (and_l c d tc);
      patched = and_r c d tc;
    }

-- a patch that is there is sound
pub stored : (v : Voice) → T (state_fits v) → v.has_patch ≡ true → Sound v.operators v.patch v.row v.plan
stored v t h =
    patch_sound_lem _ _ _ _
    (subst (λ (b : Bool). T (cond b (patch_sound v.operators v.patch v.row v.plan) v.dirty)) h
    (state_fits_lem v t).patched)

-- a clean voice has a patch
pub clean_has : (v : Voice) → T (state_fits v) → v.dirty ≡ false → v.has_patch ≡ true
clean_has v t d = go v.has_patch refl
  where
    go : (b : Bool) → v.has_patch ≡ b → v.has_patch ≡ true
    go true h = h
    go false h =
        absurd (subst T d (subst (λ (b : Bool). T (cond b (patch_sound v.operators v.patch v.row v.plan) v.dirty)) h
        (state_fits_lem v t).patched))

-- Number 9 of a voice: a fresh voice is not refused, and neither setting a patch, taking it out nor setting the switch
-- makes a voice that is not refused one that is; what a refused start hands out is refused. Assumes nothing.
use mathlib.Core.Path.{◌≡◌, refl, sym, subst}
use mathlib.Core.Bool.{Bool, true, false, cond, not, ◌&&◌}
use mathlib.Core.List.{List, [], ◌∷◌}
use Prim.Native.Nat.{ℕ, zero, suc, ◌-◌, ◌≤◌}
use native.Mathlib.Omega.{arith}
use lib.Dec.{T, eqb, le→leb}
use lib.ListN.{take}
use lib.Ieee.{Float}
use lib.Ieee.Bits.{is_true}
use lib.Ieee.Fits.{and_i}
use Rattle.std.specs.Prelude.{Result, Ok, Err, IfErr}
use Rattle.refusals.specs.declared.Refusal.{Refusal}
use Rattle.refusals.specs.declared.Refusal.TheVariants.{WrongTable, SampleRate, Field}
use Rattle.refusals.specs.declared.Refused.{Refused}
use Rattle.refusals.specs.Answer.{number_of, number_given, refused, number_told, state_after}
use Rattle.patch.specs.declared.Patch.{Patch}
use Rattle.patch.specs.Packed.{patch_fits}
use Rattle.patch_limits.specs.Ranges.{sample_rate_fits}
use Rattle.algorithms.specs.declared.Plan.{Plan}
use Rattle.algorithms.specs.declared.Compiled.{Compiled}
use Rattle.algorithms.specs.Chain.{rendered}
use Rattle.algorithms.specs.Plan.{call_of, no_plan, extended, plan_from, counted, planned, is_plan, is_plan_of}
use Rattle.algorithms.specs.Table.{tabled, row_of, with_row, compiled}
use Rattle.algorithms.proofs.Same.{same_plan_self}
use Rattle.algorithms.proofs.Steps.{at_call}
use Rattle.envelope_inner.specs.Envelope.{initialised, is_stage, all_stages}
use Rattle.voice.specs.declared.Voice.{Voice}
use Rattle.voice.specs.Voice.{voice_with, fresh_voice, no_voice, with_patch, without_patch, with_switch}
use Rattle.voice.specs.Answers.{patch_sound, state_fits, init_answer, row_compiled, loaded, set_patch_answer}
use Rattle.voice.specs.Answers.{take_patch_answer, set_transposing_answer, patch_answer}
use Rattle.voice.proofs.States.{Fits, state_fits_lem}

-- a number that is no 9
abbrev pub NoNine : ℕ → Type 0
NoNine number = T (not (eqb number 9))

-- what an answer leaves: an accepted voice, and a number that is no 9
abbrev pub Kept : Result Voice (Refused Voice) → Type 0
Kept a = T (state_fits (state_after a)) × NoNine (number_told a)

pub fits_state : (v : Voice) → Fits v → T (state_fits v)
unfolding state_fits
fits_state v f =
    let b = all_stages v.operator_envelope in
    let c = is_stage v.pitch_envelope.stage in
    let d = cond v.has_patch (patch_sound v.operators v.patch v.row v.plan) v.dirty in
    and_i (counted v.operators) (b && (c && d)) f.count
    (and_i b (c && d) f.stages (and_i c d (le→leb v.pitch_envelope.stage 3 f.pitch) f.patched))

-- ---- a fresh voice

fresh_fits : (operators : ℕ) (rate : Float) → T (counted operators) → T (state_fits (fresh_voice operators rate))
unfolding fresh_voice voice_with initialised all_stages
fresh_fits operators rate t = fits_state _ (record { count = t; stages = tt; pitch = omega arith; patched = tt })

pub init_fits : (operators : ℕ) (rate : Float) → T (counted operators) → T (sample_rate_fits rate)
    → T (state_fits (state_after (init_answer operators rate)))
unfolding init_answer
init_fits operators rate t u =
    rw (is_true (counted operators) t, is_true (sample_rate_fits rate) u) (fresh_fits operators rate t)

module _ (operators : ℕ) (rate : Float) where
  -- the start, for each way that its tests go
  abbrev start : Bool → Bool → Result Voice (Refused Voice)
  start b c =
      cond b (cond c (Ok (fresh_voice operators rate)) (refused SampleRate no_voice)) (refused WrongTable no_voice)

  abbrev made : Result Voice (Refused Voice)
  made = init_answer operators rate

  -- a start that is not refused leaves such a voice
  pub init_keeps : NoNine (number_told made) × (number_told made ≡ 0 → T (state_fits (state_after made)))
  unfolding init_answer
  init_keeps = go (counted operators) (sample_rate_fits rate) refl
    where
      go : (b c : Bool) → counted operators ≡ b
          → NoNine (number_told (start b c)) × (number_told (start b c) ≡ 0 → T (state_fits (state_after (start b c))))
      go true true e = (tt, λ z. fresh_fits operators rate (subst T (sym e) tt))
      go true false e = (tt, λ z. absurd (omega arith))
      go false c e = (tt, λ z. absurd (omega arith))

  -- one that is refused hands out a voice of no operators
  pub refused_init : (number_told made ≡ 0 → ⊥) → state_after made ≡ no_voice
  unfolding init_answer
  refused_init = go (counted operators) (sample_rate_fits rate)
    where
      go : (b c : Bool) → (number_told (start b c) ≡ 0 → ⊥) → state_after (start b c) ≡ no_voice
      go true true n = absurd (n refl)
      go true false n = refl
      go false c n = refl

pub no_voice_refused : state_fits no_voice ≡ false
unfolding state_fits no_voice voice_with counted
no_voice_refused = refl

-- ---- a patch

-- what is compiled is a row that is planned, with its plan, or a refusal that is no 9
abbrev Compiles : ℕ → Result Compiled Refusal → Type 0
Compiles operators (Ok c) = planned operators c.row ≡ Ok c.plan
Compiles operators (Err e) = NoNine (number_of e)

-- a row is refused with 3 or 4
walk_number : (operators : ℕ) (os : List ℕ) (inside first : ℕ) (p : Plan)
    → IfErr (plan_from operators inside first p os) (λ e. NoNine (number_of e))
unfolding plan_from
walk_number operators [] inside first p = tt
walk_number operators (o ∷ os) (suc inside) first p = walk_number operators os inside (suc first) p
walk_number operators (o ∷ os) zero first p =
    at_call (λ q. IfErr q (λ e. NoNine (number_of e))) operators first p o os tt tt
    (λ x y. walk_number operators os (rendered operators (o ∷ os) - 1) (suc first)
    (extended p (call_of first (rendered operators (o ∷ os)) (o ∷ os))))

planned_compiles : (operators : ℕ) (bytes : List ℕ) → Compiles operators (with_row bytes (planned operators bytes))
unfolding planned with_row
planned_compiles operators bytes =
    go (counted operators) refl (plan_from operators 0 0 no_plan (take operators bytes)) refl
    (walk_number operators (take operators bytes) 0 0 no_plan)
  where
    go : (b : Bool) → counted operators ≡ b → (r : Result Plan Refusal)
        → plan_from operators 0 0 no_plan (take operators bytes) ≡ r
        → IfErr r (λ e. NoNine (number_of e)) → Compiles operators (with_row bytes (cond b r (Err WrongTable)))
    go true x (Ok p) y h = rw (x, y) refl
    go true x (Err e) y h = h
    go false x r y h = tt

-- a table with 2
compiles : (operators : ℕ) (table : List ℕ) (row : ℕ) → Compiles operators (compiled operators table row)
unfolding compiled
compiles operators table row = go (tabled operators table row)
  where
    bytes : List ℕ
    bytes = row_of operators table row

    go : (b : Bool) → Compiles operators (cond b (with_row bytes (planned operators bytes)) (Err WrongTable))
    go true = planned_compiles operators bytes
    go false = tt

module _ (v : Voice) (t : T (state_fits v)) where
  with_patch_fits : (p : Patch) (row : List ℕ) (plan : Plan) → T (patch_fits p) → planned v.operators row ≡ Ok plan
      → T (state_fits (with_patch v true p row plan))
  unfolding with_patch patch_sound is_plan_of is_plan
  with_patch_fits p row plan u e =
      let f = state_fits_lem v t in
      fits_state _ (record {
        count = f.count;
        stages = f.stages;
        pitch = f.pitch;
        patched = and_i (patch_fits p) (is_plan (planned v.operators row) plan) u (rw (e, same_plan_self plan) tt);
      })

  without_patch_fits : T (state_fits (without_patch v))
  unfolding without_patch with_patch
  without_patch_fits =
      let f = state_fits_lem v t in
      fits_state _ (record { count = f.count; stages = f.stages; pitch = f.pitch; patched = tt })

  pub set_patch_keeps : (p : Patch) (table : List ℕ) → Kept (set_patch_answer v p table)
  unfolding set_patch_answer row_compiled
  set_patch_keeps p table =
      rw (is_true (state_fits v) t)
      (go (patch_fits p) refl (compiled v.operators table p.algorithm) (compiles v.operators table p.algorithm))
    where
      -- a refusal leaves the voice as it was
      same : (w : Voice) → w ≡ v → T (state_fits w)
      same w e = subst (λ (u : Voice). T (state_fits u)) (sym e) t

      go : (b : Bool) → patch_fits p ≡ b → (c : Result Compiled Refusal) → Compiles v.operators c
          → Kept (loaded v p (cond b c (Err Field)))
      go true f (Ok c) k = (with_patch_fits p c.row c.plan (subst T (sym f) tt) k, tt)
      go true f (Err e) k = (same _ (first_of (cc, simp f)), k)
      go false f c k = (same _ (first_of (cc, simp f)), tt)

  pub take_patch_keeps : Kept (take_patch_answer v)
  unfolding take_patch_answer
  take_patch_keeps = rw (is_true (state_fits v) t) (without_patch_fits, tt)

  -- a voice without a patch is dirty already
  with_switch_fits : (on : Bool) → T (state_fits (with_switch v on))
  unfolding with_switch
  with_switch_fits on =
      let f = state_fits_lem v t in
      fits_state _ (record {
        count = f.count;
        stages = f.stages;
        pitch = f.pitch;
        patched = go v.has_patch f.patched;
      })
    where
      sound : Bool
      sound = patch_sound v.operators v.patch v.row v.plan

      go : (b : Bool) → T (cond b sound v.dirty) → T (cond b sound true)
      go true s = s
      go false s = tt

  pub set_transposing_keeps : (on : Bool) → Kept (set_transposing_answer v on)
  unfolding set_transposing_answer
  set_transposing_keeps on = rw (is_true (state_fits v) t) (with_switch_fits on, tt)

  pub patch_no_nine : NoNine (number_given (patch_answer v))
  unfolding patch_answer
  patch_no_nine = rw (is_true (state_fits v) t) tt

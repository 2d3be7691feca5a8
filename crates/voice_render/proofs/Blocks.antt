-- What is computed step by step is what the definitions say, over plain variables. Assumes nothing.
use mathlib.Core.Path.{◌≡◌, refl, sym, subst}
use mathlib.Core.Bool.{Bool, true, false, cond, ◌&&◌, ◌||◌}
use mathlib.Core.List.{List}
use Prim.Native.Nat.{ℕ, ◌/◌, ◌%◌, ◌≤◌}
use native.Mathlib.Omega.{arith}
use borrow.Author.Tests.{eqb-true}
use lib.Dec.{T, eqb, leb, leb→le}
use lib.ListN.{length}
use lib.Ieee.{Float}
use lib.Ieee.Fits.{and_l, and_r}
use Rattle.patch.specs.declared.Patch.{Patch}
use Rattle.patch.specs.Layout.{patch_sensitivity}
use Rattle.patch.specs.Packed.{patch_fits, operators_fit, stages_fit, modulations_fit, name_fits}
use Rattle.patch_limits.proofs.Within.{patch_fits_lem}
use Rattle.algorithms.specs.Plan.{counted}
use Rattle.operator.specs.declared.Operator.{Operator}
use Rattle.voice_block.specs.declared.Operators.{Operators}
use Rattle.voice_block.specs.Calls.{ran}
use Rattle.voice_levels.specs.declared.Levels.{Levels}
use Rattle.voice_levels.specs.Levels.{all_as_asked, leveled_to}
use Rattle.voice.specs.declared.Voice.{Voice}
use Rattle.voice_render.specs.declared.VoiceParameters.{VoiceParameters}
use Rattle.voice_render.specs.declared.Begun.{Begun}
use Rattle.voice_render.specs.declared.Rendered.{Rendered}
use Rattle.voice_render.specs.Block.{begun, entering}
use Rattle.voice_render.specs.Block.{levels_for, marks_for, after, played, sounded, sounded_by}
use Rattle.voice_render.specs.Answers.{block_fits}

-- ---- what is accepted

-- an accepted patch has six operators that fit
pub operators_of : (p : Patch) → T (patch_fits p) → T (operators_fit p.op)
operators_of p t =
    let a = operators_fit p.op in
    let b = stages_fit p.pitch_envelope.rate in
    let b' = stages_fit p.pitch_envelope.level in
    let c = leb p.algorithm 31 in
    let d = leb p.feedback 7 in
    let e = leb p.reset_phase 1 in
    let f = modulations_fit p.modulations patch_sensitivity in
    let g = leb p.transpose 48 in
    let h = name_fits p.name in
    let i = eqb p.active_operators 63 in
    and_l a b
    (and_l (a && b) b'
    (and_l (a && b && b') c
    (and_l (a && b && b' && c) d
    (and_l (a && b && b' && c && d) e
    (and_l (a && b && b' && c && d && e) f
    (and_l (a && b && b' && c && d && e && f) g
    (and_l (a && b && b' && c && d && e && f && g) h
    (and_l (a && b && b' && c && d && e && f && g && h) i (subst T (patch_fits_lem p) t)))))))))

pub count_at_most_6 : (n : ℕ) → T (counted n) → n ≤ 6
unfolding counted
count_at_most_6 n t = go (eqb n 4) refl (eqb n 6) refl
  where
    go : (a : Bool) → eqb n 4 ≡ a → (b : Bool) → eqb n 6 ≡ b → n ≤ 6
    go true p b q = let z = eqb-true n 4 p in omega arith
    go false p true q = let z = eqb-true n 6 q in omega arith
    go false p false q = let z : (eqb n 4 || eqb n 6) ≡ false = simp (p, q) in absurd (subst T z t)

-- a block's length that 8 accepts
pub block_small : (size : ℕ) → T (block_fits size) → size ≤ 4096
unfolding block_fits
block_small size t = leb→le size 4096 (and_r (eqb (size % 4) 0) (leb size 4096) t)

pub block_whole : (size : ℕ) → T (block_fits size) → size % 4 ≡ 0
unfolding block_fits
block_whole size t = eqb-true (size % 4) 0 (go (eqb (size % 4) 0) (and_l (eqb (size % 4) 0) (leb size 4096) t))
  where
    go : (b : Bool) → T b → b ≡ true
    go true t = refl
    go false t = absurd t

-- ---- a block

module _ (pairs high low : List Float) (v : Voice) (p : VoiceParameters) (block : List Float) where
  pub sounded_of : {b : Begun} {l : Levels} {os : List Operator} {r : Operators} {out : List Float} {d : Rendered}
      → b ≡ begun high low v p (length block / 4)
      → l ≡ leveled_to b.scene v.patch.op v.ratios v.level_headroom v.row v.operator_envelope v.operators
      → os ≡ entering v p
      → record { operators = r; block = out }
      ≡ ran pairs v.plan l.steps l.amplitudes v.patch.feedback
      (record { operator = os; feedback_state = v.feedback_state }) block
      → d ≡ record { marks = cond (eqb (length block / 4) 0) all_as_asked l.marks; voice = after v p b l r }
      → sounded_by d out ≡ sounded pairs high low v p block
  unfolding sounded played levels_for marks_for
  sounded_of eb el eo er ed =
      let here = rw (el, eo, eb) at er in
      rw (ed, el, eb, sym here) refl

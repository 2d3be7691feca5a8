-- A block has six marks, and each is what the request says. Assumes nothing, of the voice, the tables or the block.
use mathlib.Core.Path.{◌≡◌, refl, sym, subst}
use mathlib.Core.Bool.{Bool, true, false, cond, not, ◌&&◌, ◌||◌}
use mathlib.Core.List.{List}
use Prim.Native.Nat.{ℕ, ◌/◌, ◌≤◌}
use native.Mathlib.Omega.{arith}
use borrow.Author.Tests.{eqb-true, eqb-false, leb-true, leb-false, eq-eqb, ne_eqb}
use lib.Dec.{T, eqb, leb}
use lib.ListN.{length, get_or}
use lib.Ieee.{Float}
use Rattle.dx_units_step.specs.declared.Mark.TheVariants.{AsAsked}
use Rattle.dx_units_step.specs.Step.{mark_for}
use Rattle.voice_levels.specs.Levels.{all_as_asked}
use Rattle.voice.specs.declared.Voice.{Voice}
use Rattle.voice.specs.Answers.{state_fits}
use Rattle.voice.proofs.States.{state_fits_lem}
use Rattle.voice_render.specs.declared.VoiceParameters.{VoiceParameters}
use Rattle.voice_render.specs.Block.{played_by, levels_for, marks_for, sounded}
use Rattle.voice_render.specs.Answers.{block_fits, marks_told, parameters_fit_for, render_answer}
use Rattle.voice_render.proofs.Blocks.{count_at_most_6, block_whole}
use Rattle.voice_render.proofs.Alike.{answer_by}
use Rattle.theorem_marks.specs.Marks.{refused, untold, frequency_in, mark_in}
use Rattle.theorem_marks.proofs.Levels.{all_as_asked_lem, marks_length, mark_of, mark_behind}

-- an accepted block is empty where its quarters are
empty_quarters : (n : ℕ) → block_fits n ≡ true → eqb (n / 4) 0 ≡ eqb n 0
empty_quarters n h = go (eqb n 0) refl
  where
    go : (b : Bool) → eqb n 0 ≡ b → eqb (n / 4) 0 ≡ b
    go true e = let z = eqb-true n 0 e in eq-eqb (n / 4) 0 (omega arith)
    go false e =
        let z = eqb-false n 0 e in
        let whole = block_whole n (subst T (sym h) tt) in
        ne_eqb (n / 4) 0 (λ q. omega arith)

module _ (pairs high low : List Float) (v : Voice) (p : VoiceParameters) (block : List Float) where
  abbrev n : ℕ
  n = length block / 4

  -- what the block plays
  abbrev q : VoiceParameters
  q = played_by v p

  -- a sounding block
  sounding_mark : (k : ℕ) → T (state_fits v) → (empty : Bool) → eqb n 0 ≡ empty
      → get_or (marks_for pairs high low v q n) k AsAsked
      ≡ cond (empty || leb v.operators k) AsAsked (mark_for (frequency_in high low v p block k))
  unfolding marks_for levels_for frequency_in
  sounding_mark k t true e = rw e (all_as_asked_lem k)
  sounding_mark k t false e = rw e (go (leb v.operators k) refl)
    where
      few : v.operators ≤ 6
      few = count_at_most_6 v.operators (state_fits_lem v t).count

      go : (b : Bool) → leb v.operators k ≡ b → get_or (levels_for pairs high low v q n).marks k AsAsked
          ≡ cond b AsAsked (mark_for (frequency_in high low v p block k))
      go true l = mark_behind _ _ _ _ _ _ v.operators k (leb-true v.operators k l)
      go false l = let z = leb-false v.operators k l in mark_of _ _ _ _ _ _ v.operators k (omega arith) few

  -- every mark of a block
  pub block_mark : (k : ℕ)
      → get_or (marks_told (render_answer pairs high low v p block).answer) k AsAsked ≡ mark_in high low v p block k
  unfolding render_answer sounded mark_in untold refused
  block_mark k = go (state_fits v) (block_fits (length block)) (parameters_fit_for v p) v.dirty refl refl
    where
      go : (state size fit dirty : Bool) → state_fits v ≡ state → block_fits (length block) ≡ size
          → get_or (marks_told (answer_by pairs high low v q block state size fit dirty).answer) k AsAsked
          ≡ cond (not (state && size && fit) || dirty || eqb (length block) 0 || leb v.operators k) AsAsked
          (mark_for (frequency_in high low v p block k))
      go true true true false s z =
          sounding_mark k (subst T (sym s) tt) (eqb (length block) 0) (empty_quarters (length block) z)
      go true true true true s z = all_as_asked_lem k
      go true true false dirty s z = all_as_asked_lem k
      go true false fit dirty s z = all_as_asked_lem k
      go false size fit dirty s z = all_as_asked_lem k

  -- and there are six
  pub six_marks : length (marks_told (render_answer pairs high low v p block).answer) ≡ 6
  unfolding render_answer sounded marks_for levels_for all_as_asked
  six_marks = go (state_fits v) (block_fits (length block)) (parameters_fit_for v p) v.dirty
    where
      told : (empty : Bool) → length (cond empty all_as_asked (levels_for pairs high low v q n).marks) ≡ 6
      told true = refl
      told false = marks_length _ _ _ _ _ _ v.operators

      go : (state size fit dirty : Bool)
          → length (marks_told (answer_by pairs high low v q block state size fit dirty).answer) ≡ 6
      go true true true false = told (eqb n 0)
      go true true true true = refl
      go true true false dirty = refl
      go true false fit dirty = refl
      go false size fit dirty = refl

-- A plan keeps a block's length. Assumes nothing.
use mathlib.Core.Path.{◌≡◌, refl, sym, ap, ◌∙◌}
use mathlib.Core.List.{List, [], ◌∷◌}
use Prim.Native.Nat.{ℕ, zero, suc, ◌+◌, ◌/◌, ◌%◌}
use native.Mathlib.Nat.{suc-ne-zero, suc_inj}
use native.Mathlib.Omega.{arith}
use lib.ListN.{length, get_or, length-set, length-append}
use lib.Ieee.{Float}
use Rattle.algorithms.specs.Plan.{no_call}
use Rattle.algorithms.specs.declared.Call.{Call}
use Rattle.algorithms.specs.declared.Plan.{Plan}
use Rattle.voice_block.specs.Quarters.{split, joined}
use Rattle.voice_block.specs.Calls.{Setting, Desk, desk, called, called_up_to, setting, ran}
use Rattle.voice_block.specs.declared.Operators.{Operators}
use Rattle.voice_block.proofs.Quarters.{joined_split}
use Rattle.voice_block.proofs.Same.{plan_size}

-- as many parts, each as long as the other's
joined_length : (qs ps : List (List Float)) → length qs ≡ length ps
    → ((q : ℕ) → length (get_or qs q []) ≡ length (get_or ps q [])) → length (joined qs) ≡ length (joined ps)
unfolding joined
joined_length [] [] e f = refl
joined_length [] (p ∷ ps) e f = absurd (suc-ne-zero _ (sym e))
joined_length (q ∷ qs) [] e f = absurd (suc-ne-zero _ e)
joined_length (q ∷ qs) (p ∷ ps) e f =
    length-append q (joined qs)
    ∙ ap (λ (n : ℕ). n + length (joined qs)) (f 0)
    ∙ ap (λ (n : ℕ). length p + n) (joined_length qs ps (suc_inj e) (λ i. f (suc i)))
    ∙ sym (length-append p (joined ps))

plan_quarters : (pairs : List Float) (g : Setting) (cs : List Call) (k : ℕ) (d : Desk)
    → length (called_up_to pairs g cs k d).quarters ≡ length d.quarters
unfolding called_up_to called
plan_quarters pairs g cs zero d = refl
plan_quarters pairs g cs (suc k) d =
    length-set (called_up_to pairs g cs k d).quarters (get_or cs k no_call).output _ ∙ plan_quarters pairs g cs k d

pub ran_length : (pairs : List Float) (plan : Plan) (steps : List ℕ) (targets : List Float) (amount : ℕ)
    (v : Operators) (block : List Float) → length block % 4 ≡ 0
    → length (ran pairs plan steps targets amount v block).block ≡ length block
unfolding ran
ran_length pairs plan steps targets amount v block h =
    let n = length block / 4 in
    let g = setting steps targets amount n in
    let d = desk n v block in
    joined_length _ (split n 4 block) (plan_quarters pairs g plan.calls plan.count d)
    (plan_size pairs g plan.calls plan.count d)
    ∙ ap length (joined_split n 4 block (omega arith))

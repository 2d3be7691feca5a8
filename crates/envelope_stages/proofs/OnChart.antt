-- Each of four levels that the chart has is one that it has. Assumes nothing.
use Rattle.std.proofs.Common.{◌≡◌, ℕ, zero, suc, ◌≤◌, ◌<◌, List, []}
use Rattle.std.proofs.Common.{◌∷◌, ◌++◌, length, get_or, ap, ◌∙◌, arith, length-append}
use Rattle.std.proofs.Math.Seq.{get_or-append_seam}
use Rattle.std.specs.Array.{list_steps}
use Rattle.std.specs.Iterator.{Yields}
use Rattle.envelope_stages.specs.Stages.{OnChart}

at_each : (level : List ℕ) (i : ℕ) → OnChart level → i < 4 → get_or level i 0 ≤ 99
at_each level zero o h = o.0
at_each level (suc zero) o h = o.1
at_each level (suc (suc zero)) o h = o.2
at_each level (suc (suc (suc zero))) o h = o.3
at_each level (suc (suc (suc (suc n)))) o h = absurd (omega arith)

-- what is passed and what is left of a list
passed : (l xs t : List ℕ) → Yields list_steps l xs t → l ≡ xs ++ t
passed l [] t y = y
passed l (x ∷ xs) t y = y.1 ∙ ap (λ (r : List ℕ). x ∷ r) (passed y.0 xs t y.2)

pub each_on_chart : (level xs t u : List ℕ) (x : ℕ) → OnChart level → length level ≡ 4 → Yields list_steps level xs t
    → t ≡ x ∷ u → x ≤ 99
each_on_chart level xs t u x o four y e =
    let whole : level ≡ xs ++ (x ∷ u) = passed level xs t y ∙ ap (λ (r : List ℕ). xs ++ r) e in
    let short : length xs < 4 = omega (arith, ap length whole, length-append xs (x ∷ u)) in
    let here : get_or level (length xs) 0 ≡ x = rw whole (get_or-append_seam xs x u 0) in
    omega (arith, at_each level (length xs) o short)

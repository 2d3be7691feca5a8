-- `patch_numbers::envelope_of` meets its contract: four rates and four levels. Assumes nothing.
use Rattle.std.proofs.Common.{◌≡◌, List, [], ◌∷◌, ℕ, ◌+◌, get_or, arith}
use Rattle.std.proofs.lemmas.Grind.{common_steps}
use Rattle.patch.specs.Form.{envelope_with}
use Rattle.patch.specs.Positions.{envelope_position}
use Rattle.patch_numbers.proofs.envelope_of.Goals as goal

-- the four numbers from place k on, counted from `at`
abbrev four : List ℕ → ℕ → ℕ → List ℕ
four s at k = get_or s (at + k) 0 ∷ get_or s (at + (k + 1)) 0 ∷ get_or s (at + (k + 2)) 0 ∷ get_or s (at + (k + 3)) 0 ∷ []

pub returns : goal.returns
unfolding envelope_with envelope_position
returns c =
    let rate : c.from_fn.result ≡ four c.args.s.now c.args.at 0 = grind (arith, common_steps) in
    let level : c.from_fn-2.result ≡ four c.args.s.now c.args.at 4 = grind (arith, common_steps) in
    rw (rate, level)

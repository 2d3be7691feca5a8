-- A patch's numbers and the patch of numbers, there and back, and the numbers in the parts that the code writes.
-- Assumes nothing.
use mathlib.Core.Path.{◌≡◌, refl, sym, ◌∙◌, ap}
use mathlib.Core.List.{List, ◌++◌, append-nil}
use Prim.Native.Nat.{ℕ, ◌*◌, ◌≤◌}
use native.Mathlib.Omega.{arith}
use lib.ListN.{length, get_or, drop, replicate, length-append, length-drop}
use lib.Seq.{paste}
use Rattle.patch.specs.declared.Patch.{Patch}
use Rattle.patch.specs.Layout.{operator_names, envelope_names, scaling_names, lfo_names, letters, shared_names, layout}
use Rattle.patch.specs.Form.{number_of, patch_with, operator_at, Shaped}
use Rattle.patch.specs.Positions.{envelope_position, scaling_position, operator_position, lfo_position, position}
use Rattle.patch.proofs.Made.{firsts, listed, patch_numbers}
use Rattle.patch.proofs.Positions.{numbers_with, by_position}
use Rattle.lent_bytes.proofs.Blocks.{blocks, length_blocks, paste_behind}
use Rattle.patch_numbers.specs.Numbers.{numbers_of, patch_of, operator_numbers, shared_numbers}

pub length_numbers : (p : Patch) → length (numbers_of p) ≡ 155
unfolding numbers_of layout operator_names envelope_names scaling_names lfo_names letters shared_names
length_numbers p = refl

-- the numbers of the patch of 155 numbers are these
pub numbers_of_patch : (ns : List ℕ) → length ns ≡ 155 → numbers_of (patch_of ns) ≡ ns
unfolding numbers_of patch_of firsts layout operator_names envelope_names scaling_names lfo_names letters shared_names
    position operator_position envelope_position scaling_position lfo_position
numbers_of_patch ns h = numbers_with (λ n. get_or ns (position n) 0) 63 ∙ listed 0 155 ns h

-- the patch of a patch's numbers is that patch, if all its operators are active
pub patch_of_numbers : (p : Patch) → Shaped p → p.active_operators ≡ 63 → patch_of (numbers_of p) ≡ p
unfolding numbers_of patch_of
patch_of_numbers p h e =
    by_position (number_of p) 63 ∙ ap (patch_with (number_of p)) (sym e) ∙ patch_numbers p h

-- so numbers tell such patches apart
pub same_patch : (p q : Patch) → Shaped p → Shaped q → p.active_operators ≡ 63 → q.active_operators ≡ 63
    → numbers_of p ≡ numbers_of q → p ≡ q
same_patch p q h k e f n = sym (patch_of_numbers p h e) ∙ ap patch_of n ∙ patch_of_numbers q k f

-- the operators' numbers, one behind the other, and those behind them
module _ (p : Patch) where
  abbrev pub operator_block : ℕ → List ℕ
  operator_block k = operator_numbers (operator_at p.op k)

  pub block_length : (k : ℕ) → length (operator_block k) ≡ 21
  unfolding operator_numbers operator_names envelope_names scaling_names
  block_length k = refl

  by_operators : numbers_of p ≡ blocks operator_block 6 ++ shared_numbers p
  unfolding numbers_of shared_numbers operator_numbers blocks layout operator_names envelope_names scaling_names
      lfo_names letters shared_names number_of
  by_operators = refl

  -- 155 numbers at each step
  pub put_length : (i : ℕ) (l : List ℕ) → i ≤ 6 → l ≡ blocks operator_block i ++ drop (21 * i) (replicate 155 0)
      → length l ≡ 155
  put_length i l h e =
      ap length e
      ∙ simp (length-append, length-drop, length_blocks operator_block 21 block_length i) (omega arith)

  -- six operators' numbers, and the rest put behind them, are the patch's
  pub all_put : (i : ℕ) (l m : List ℕ) → i ≡ 6 → l ≡ blocks operator_block i ++ drop (21 * i) (replicate 155 0)
      → m ≡ paste l 126 (shared_numbers p) (length (shared_numbers p)) → m ≡ numbers_of p
  unfolding shared_numbers shared_names envelope_names lfo_names letters
  all_put i l m six e f =
      f ∙ ap (λ (x : List ℕ). paste x 126 (shared_numbers p) 29)
      (e ∙ ap (λ (k : ℕ). blocks operator_block k ++ drop (21 * k) (replicate 155 0)) six)
      ∙ (paste_behind (blocks operator_block 6) (drop 126 (replicate 155 0)) (shared_numbers p) 126 29
      (length_blocks operator_block 21 block_length 6) refl
      ∙ (append-nil (blocks operator_block 6 ++ shared_numbers p) ∙ sym by_operators))

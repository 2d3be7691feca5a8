-- Phases by the book: after a part each operator's phase has moved on by the number of samples times its step, modulo 2
-- ^ 32.
-- Assumes nothing.
use mathlib.Core.Path.{◌≡◌, refl, ap, ◌∙◌}
use Prim.Native.Nat.{ℕ, zero, suc, ◌+◌, ◌*◌, ◌%◌, ◌^◌, ◌<◌}
use native.Mathlib.Nat.{zero-mul, suc-mul, le_of_suc-le-suc, not-suc-le-zero}
use native.Mathlib.Omega.{arith}
use mathlib.Core.List.{List, [], ◌∷◌}
use lib.ListN.{length, get_or}
use lib.Ieee.{Float, nan}
use Rattle.operator.specs.Sample.{moved}
use Rattle.operator.specs.Chain.{Source, Chain, all_moved, next, ended}
use Rattle.operator.specs.declared.Lane.{Lane}

-- what stands past a chain's last operator
abbrev pub no_lane : Lane
no_lane = record { phase = 0; amplitude = nan; step = 0; increment = nan }

pub length_moved : (ls : List Lane) → length (all_moved ls) ≡ length ls
unfolding all_moved
length_moved [] = refl
length_moved (l ∷ ls) = ap suc (length_moved ls)

moved_at : (ls : List Lane) (k : ℕ) → k < length ls → get_or (all_moved ls) k no_lane ≡ moved (get_or ls k no_lane)
unfolding all_moved
moved_at [] k h = absurd (not-suc-le-zero h)
moved_at (l ∷ ls) zero h = refl
moved_at (l ∷ ls) (suc k) h = moved_at ls k (le_of_suc-le-suc h)

module _ (pairs : List Float) (source : Source) where
  pub length_ended : (size i : ℕ) (s : Chain) → length (ended pairs source size i s).lanes ≡ length s.lanes
  unfolding ended next
  length_ended zero i s = refl
  length_ended (suc size) i s = length_ended size (suc i) (next pairs source i s) ∙ length_moved s.lanes

  pub phase_ended : (size i : ℕ) (s : Chain) (k : ℕ) → k < length s.lanes → (get_or s.lanes k no_lane).phase < 2 ^ 32
      → (get_or (ended pairs source size i s).lanes k no_lane).phase
      ≡ ((get_or s.lanes k no_lane).phase + size * (get_or s.lanes k no_lane).step) % 2 ^ 32
  unfolding ended next moved
  phase_ended zero i s k h f = omega (arith, zero-mul (get_or s.lanes k no_lane).step)
  phase_ended (suc size) i s k h f =
      let t = next pairs source i s in
      let l = get_or s.lanes k no_lane in
      let m = moved_at s.lanes k h in
      let p = ap (λ (l : Lane). l.phase) m in
      let q = ap (λ (l : Lane). l.step) m in
      let r = phase_ended size (suc i) t k (rw (length_moved s.lanes) h) (rw p (omega arith)) in
      r ∙ rw (p, q) (omega (arith, suc-mul size l.step))

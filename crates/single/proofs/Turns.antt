-- The turn of each operator's last seven numbers, place by place. Assumes nothing.
use mathlib.Core.Path.{◌≡◌, refl, sym, ◌∙◌, ap}
use mathlib.Core.List.{List, [], ◌∷◌}
use Prim.Native.Nat.{ℕ, zero, suc, ◌+◌, ◌-◌, ◌%◌, ◌<◌, ◌≤◌}
use native.Mathlib.Nat.{add-zero, zero-add}
use native.Mathlib.Omega.{arith}
use borrow.Author.Tests.{le-leb, lt-leb, le-ltb, lt-ltb}
use lib.ListN.{length, get_or}
use lib.Seq.{ext_get_or}
use Rattle.dump.specs.Dump.{largest_of}
use Rattle.single.specs.Single.{turned_place, turned_from, turned}

-- where a number is taken from
module _ (by i : ℕ) where
  pub behind_stays : 126 ≤ i → i ≡ turned_place by i
  unfolding turned_place
  behind_stays h = rw (le-ltb i 126 h)

  module _ (h : i < 126) where
    pub first_stays : i % 21 < 14 → i ≡ turned_place by i
    unfolding turned_place
    first_stays k = rw (lt-ltb i 126 h, lt-leb 14 (i % 21) k)

    pub last_turns : 14 ≤ i % 21 → i - i % 21 + 14 + (i % 21 - 14 + by) % 7 ≡ turned_place by i
    unfolding turned_place
    last_turns k = rw (lt-ltb i 126 h, le-leb 14 (i % 21) k)

module _ (by : ℕ) (s : List ℕ) where
  length_turned : (i count : ℕ) → length (turned_from by s i count) ≡ count
  unfolding turned_from
  length_turned i zero = refl
  length_turned i (suc count) = ap suc (length_turned (suc i) count)

  get_or_turned : (count i k : ℕ) → k < count
      → get_or (turned_from by s i count) k 0 ≡ get_or s (turned_place by (i + k)) 0
  unfolding turned_from
  get_or_turned zero i k h = let z : ⊥ = omega arith in absurd z
  get_or_turned (suc count) i zero h = ap (λ (j : ℕ). get_or s (turned_place by j) 0) (sym (add-zero i))
  get_or_turned (suc count) i (suc k) h =
      get_or_turned count (suc i) k (omega arith) ∙ ap (λ (j : ℕ). get_or s (turned_place by j) 0) (omega arith)

  -- the first i numbers are there
  abbrev pub TurnedTo : ℕ → List ℕ → Type 0
  TurnedTo i out = (k : ℕ) → k < i → get_or out k 0 ≡ get_or s (turned_place by k) 0

  -- all are
  pub turned_all : (out : List ℕ) → length out ≡ 155 → TurnedTo 155 out → out ≡ turned by s
  unfolding turned
  turned_all out l t =
      ext_get_or 0 out (turned_from by s 0 155) (l ∙ sym (length_turned 0 155)) (λ k h.
      t k (omega arith)
      ∙ sym (get_or_turned 155 0 k (omega arith) ∙ ap (λ (j : ℕ). get_or s (turned_place by j) 0) (zero-add k)))

  -- none is larger than all were
  get_d_low : (l : List ℕ) (k : ℕ) → get_or l k 0 ≤ largest_of l
  unfolding largest_of
  get_d_low [] k = omega arith
  get_d_low (x ∷ l) zero = omega arith
  get_d_low (x ∷ l) (suc k) = let h = get_d_low l k in omega arith

  low_from : largest_of s ≤ 127 → (count i : ℕ) → largest_of (turned_from by s i count) ≤ 127
  unfolding turned_from largest_of
  low_from h zero i = omega arith
  low_from h (suc count) i =
      let l = low_from h count (suc i) in
      let g = get_d_low s (turned_place by i) in
      omega arith

  pub turned_low : largest_of s ≤ 127 → largest_of (turned by s) ≤ 127
  unfolding turned
  turned_low h = low_from h 155 0

-- Every reader that is possible is left by some bytes, so 9 goes to those alone that no bytes leave. Assumes nothing.
use mathlib.Core.Path.{◌≡◌, refl, sym, ◌∙◌, ap}
use mathlib.Core.Logic.{◌⊎◌, inl, inr}
use mathlib.Core.Bool.{Bool, true, false, cond, ◌&&◌, ◌||◌, not, false≢true}
use mathlib.Core.List.{List, [], ◌∷◌, ◌++◌}
use Prim.Native.Nat.{ℕ, zero, suc, ◌+◌, ◌-◌, ◌*◌, ◌/◌, ◌%◌, ◌<◌, ◌≤◌, min, max}
use native.Mathlib.Omega.{arith}
use borrow.Author.Tests.{eqb-true, leb-true, leb-false, ltb-true, ne_eqb, le-leb, lt-leb, le-ltb}
use lib.Dec.{eqb, leb, ltb}
use lib.ListN.{length, get_or, take, drop, replicate, length-append, length-replicate, length-take, get_or-replicate}
use lib.ListN.{get_or-append}
use lib.Seq.{length-take-le, get_or-take, get_or_at, take-take, take-append-le}
use Rattle.dump.specs.Dump.{in_row, total, largest_of}
use Rattle.bank.specs.Bank.{bank_form}
use Rattle.bank_pieces.specs.declared.Receiver.{Receiver}
use Rattle.bank_pieces.specs.Pieces.{fresh, possible, came_all, frame_with, is_right, summed_with, checked_with}
use Rattle.theorem_pieces.specs.Cuts.{run_count}
use Rattle.theorem_pieces.proofs.Frames.{frame_from}
use Rattle.theorem_pieces.proofs.Known.{known_first, sum_of, sum_before, sum_none, sum_behind}
use Rattle.theorem_pieces.proofs.Reports.{known_all}

-- the data: the sum, zeros with the checksum among them, the last byte, and zeros
unfoldable pub rest : ℕ → ℕ → ℕ → List ℕ
rest n sum more = sum ∷ (replicate n 0 ++ (0xF7 ∷ replicate more 0))

-- a first byte that is wrong where the frame is, before the third one could tell it
unfoldable pub first : Receiver → ℕ
first r = cond (leb 3 r.count || eqb r.frame 0) 0xF0 0

-- all of them, and as many as the reader has counted
unfoldable pub whole : ℕ → Receiver → List ℕ
whole n r = first r ∷ 0x43 ∷ r.frame ∷ 0x09 ∷ 0x20 ∷ 0x00 ∷ rest n r.sum r.count

-- BYTES THAT LEAVE A READER
unfoldable pub leading : ℕ → Receiver → List ℕ
leading n r = take r.count (whole n r)

-- right bytes behind the third leave the frame as it is
frame_keeps : (k f : ℕ) (bs : List ℕ) → 3 ≤ k → ((i : ℕ) → i < length bs → is_right (k + i) (get_or bs i 0) ≡ true)
    → frame_from k f bs ≡ f
unfolding frame_from frame_with
frame_keeps k f [] l h = refl
frame_keeps k f (b ∷ bs) l h =
    ap (λ (g : ℕ). frame_from (suc k) g bs)
    (rw (ne_eqb k 2 (λ e. omega arith), sym (ap (λ (n : ℕ). is_right n b) here) ∙ h 0 (omega arith)) refl)
    ∙ frame_keeps (suc k) f bs (omega arith) (λ i m.
    ap (λ (n : ℕ). is_right n (get_or bs i 0)) (on i) ∙ h (suc i) (omega arith))
  where
    here : k + 0 ≡ k
    here = omega arith

    on : (i : ℕ) → suc k + i ≡ k + suc i
    on i = omega arith

-- and the bytes here are right
module _ (n : ℕ) (many : n ≡ 4096) (sum more : ℕ) where
  last_right : (j : ℕ) → is_right (6 + j) (get_or (rest n sum more) j 0) ≡ true
  unfolding is_right rest bank_form
  last_right j = at (eqb (6 + j) 4103) refl
    where
      last : 6 + j ≡ 4103 → get_or (sum ∷ (replicate n 0 ++ (0xF7 ∷ replicate more 0))) j 0 ≡ 0xF7
      last e =
          ap (λ (k : ℕ). get_or (sum ∷ (replicate n 0 ++ (0xF7 ∷ replicate more 0))) k 0) (at_last e)
          ∙ get_or_at (replicate n 0) 0xF7 (replicate more 0) 0 n (length-replicate n 0)
        where
          at_last : 6 + j ≡ 4103 → j ≡ suc n
          at_last e = omega arith

      at : (q : Bool) → eqb (6 + j) 4103 ≡ q
          → cond (ltb (6 + j) 6)
          (in_row (get_or bank_form.header (6 + j) (record { from = 0; to = 0 })) (get_or (rest n sum more) j 0))
          (cond q (in_row bank_form.last (get_or (rest n sum more) j 0)) true) ≡ true
      at false e = rw (le-ltb (6 + j) 6 (omega arith)) refl
      at true e = rw (le-ltb (6 + j) 6 (omega arith), last (eqb-true (6 + j) 4103 e)) refl

  -- the bytes behind the third
  abbrev behind : List ℕ
  behind = 0x09 ∷ 0x20 ∷ 0x00 ∷ rest n sum more

  all_right : (i : ℕ) → is_right (3 + i) (get_or behind i 0) ≡ true
  unfolding is_right bank_form
  all_right zero = refl
  all_right (suc zero) = refl
  all_right (suc (suc zero)) = refl
  all_right (suc (suc (suc j))) = ap (λ (k : ℕ). is_right k (get_or (rest n sum more) j 0)) on ∙ last_right j
    where
      on : 3 + suc (suc (suc j)) ≡ 6 + j
      on = omega arith

  -- so with three bytes or more the frame is the third
  third_kept : (f m : ℕ) → frame_from 0 0 (0xF0 ∷ 0x43 ∷ f ∷ take m behind) ≡ f
  unfolding frame_from frame_with is_right bank_form
  third_kept f m =
      frame_keeps 3 f (take m behind) (omega arith) (λ i l.
      ap (is_right (3 + i)) (get_or-take m behind i 0 (omega (arith, length-take m behind))) ∙ all_right i)

  -- the sum of a byte and zeros
  zeros_low : (q k : ℕ) → (total (take q (replicate k 0)) ≡ 0) × (largest_of (take q (replicate k 0)) ≡ 0)
  unfolding total largest_of
  zeros_low zero k = (refl, refl)
  zeros_low (suc q) zero = (refl, refl)
  zeros_low (suc q) (suc k) = let z = zeros_low q k in (omega (arith, z.0), omega (arith, z.1))

  one_sum : (zs : List ℕ) → total zs ≡ 0 → largest_of zs ≡ 0 → sum ≤ 255 → summed_with 0 (sum ∷ zs) ≡ sum
  unfolding summed_with total largest_of
  one_sum zs t l b = at (leb sum 127) refl
    where
      at : (q : Bool) → leb sum 127 ≡ q
          → cond (leb 0 127 && leb (max sum (largest_of zs)) 127) 0 128 + (0 + (sum + total zs)) % 128 ≡ sum
      at true e =
          let h = leb-true sum 127 e in
          rw (le-leb (max sum (largest_of zs)) 127 (omega arith)) (omega arith)
      at false e =
          let h = leb-false sum 127 e in
          rw (lt-leb (max sum (largest_of zs)) 127 (omega arith)) (omega arith)

  run_sum : (q : ℕ) → q ≤ n → sum ≤ 255 → summed_with 0 (take (suc q) (rest n sum more)) ≡ sum
  unfolding rest
  run_sum q l b =
      let z = zeros_low q n in
      let k = length-replicate {A = ℕ} n 0 in
      let e = take-append-le {A = ℕ} q (replicate n 0) (0xF7 ∷ replicate more 0) (omega (arith, k)) in
      ap (λ (zs : List ℕ). summed_with 0 (sum ∷ zs)) e ∙ one_sum (take q (replicate n 0)) z.0 z.1 b

  checked_sum : sum ≤ 255 → checked_with sum 0 ≡ sum
  unfolding checked_with
  checked_sum b = at (leb sum 127) refl
    where
      at : (q : Bool) → leb sum 127 ≡ q → cond q 0 128 + (sum + 0) % 128 ≡ sum
      at true e = let h = leb-true sum 127 e in omega arith
      at false e = let h = leb-false sum 127 e in omega arith

count_is : (xs : List ℕ) → run_count xs ≡ min 32 ((length xs - 6) / 128)
unfolding run_count
count_is xs = refl

-- what it says that a reader is possible
split : (e a s b f g z : Bool) → not e && (a || (s && (b || f || (g && z)))) ≡ true
    → (e ≡ false) × ((a ≡ true) ⊎ ((s ≡ true) × ((b ≡ true) ⊎ ((f ≡ true) ⊎ ((g ≡ true) × (z ≡ true))))))
split true a s b f g z h = absurd (false≢true h)
split false true s b f g z h = (refl, inl refl)
split false false false b f g z h = absurd (false≢true h)
split false false true true f g z h = (refl, inr (refl, inl refl))
split false false true false true g z h = (refl, inr (refl, inr (inl refl)))
split false false true false false true true h = (refl, inr (refl, inr (inr (refl, refl))))
split false false true false false true false h = absurd (false≢true h)
split false false true false false false z h = absurd (false≢true h)

-- the third byte came, or the frame is 0, or 255 behind a first byte; a patch was complete, or there is no sum yet
abbrev Third : Receiver → Type 0
Third r =
    (leb 3 r.count ≡ true)
    ⊎ ((eqb r.frame 0 ≡ true) ⊎ ((eqb r.frame 255 ≡ true) × (ltb 0 r.count ≡ true)))

abbrev Early : Receiver → Type 0
Early r = (leb 134 r.count ≡ true) ⊎ ((eqb r.sum 0 ≡ true) × Third r)

module _ (n : ℕ) (many : n ≡ 4096) (r : Receiver) (ok : possible r ≡ true) (few : r.count ≤ 18446744073709551615)
    (byte : r.sum ≤ 255) where
  parts : (r.ended ≡ false) × Early r
  unfolding possible
  parts =
      split r.ended (leb 134 r.count) (eqb r.sum 0) (leb 3 r.count) (eqb r.frame 0) (eqb r.frame 255)
      (ltb 0 r.count) ok

  whole_length : length (whole n r) ≡ r.count + 4104
  unfolding whole rest
  whole_length =
      let a = length-append {A = ℕ} (replicate n 0) (0xF7 ∷ replicate r.count 0) in
      let b = length-replicate {A = ℕ} n 0 in
      let c = length-replicate {A = ℕ} r.count 0 in
      omega (arith, a, b, c, many)

  leading_length : length (leading n r) ≡ r.count
  unfolding leading
  leading_length = length-take-le r.count (whole n r) (omega (arith, whole_length))

  first_right : first r ≡ 0xF0 → (m : ℕ) → r.count ≡ suc (suc (suc m)) → frame_from 0 0 (leading n r) ≡ r.frame
  unfolding leading whole
  first_right e m c =
      ap (λ (k : ℕ). frame_from 0 0 (take k (whole n r))) c
      ∙ ap (λ (b : ℕ). frame_from 0 0 (b ∷ 0x43 ∷ r.frame ∷ take m (behind n many r.sum r.count))) e
      ∙ third_kept n many r.sum r.count r.frame m

  first_late : 3 ≤ r.count → first r ≡ 0xF0
  unfolding first
  first_late l = rw (le-leb 3 r.count l) refl

  -- the frame of two bytes or fewer
  few_frame : (k f : ℕ) → r.count ≡ k → r.frame ≡ f → (p : Bool) → eqb f 0 ≡ p
      → frame_from 0 0 (take k (cond (leb 3 k || p) 0xF0 0 ∷ 0x43 ∷ f ∷ behind n many r.sum k)) ≡ f
      → frame_from 0 0 (leading n r) ≡ r.frame
  unfolding leading whole first
  few_frame k f c e p q h = rw (c, e, q) h

  -- before the third byte the frame is 0, or 255 behind a first byte
  small : r.count < 3 → (r.frame ≡ 0) ⊎ ((r.frame ≡ 255) × (0 < r.count))
  small l = at parts.1
    where
      third : Third r → (r.frame ≡ 0) ⊎ ((r.frame ≡ 255) × (0 < r.count))
      third (inl e) = let h = leb-true 3 r.count e in let w : ⊥ = omega arith in absurd w
      third (inr (inl e)) = inl (eqb-true r.frame 0 e)
      third (inr (inr e)) = inr (eqb-true r.frame 255 e.0, ltb-true 0 r.count e.1)

      at : Early r → (r.frame ≡ 0) ⊎ ((r.frame ≡ 255) × (0 < r.count))
      at (inl e) = let h = leb-true 134 r.count e in let w : ⊥ = omega arith in absurd w
      at (inr e) = third e.1

  few_left : (k : ℕ) → r.count ≡ k → k < 3 → (r.frame ≡ 0) ⊎ ((r.frame ≡ 255) × (0 < r.count))
      → frame_from 0 0 (leading n r) ≡ r.frame
  unfolding frame_from frame_with is_right bank_form
  few_left zero c l (inl e) = few_frame 0 0 c e true refl refl
  few_left zero c l (inr e) = let h = e.1 in let w : ⊥ = omega arith in absurd w
  few_left (suc zero) c l (inl e) = few_frame 1 0 c e true refl refl
  few_left (suc zero) c l (inr e) = few_frame 1 255 c e.0 false refl refl
  few_left (suc (suc zero)) c l (inl e) = few_frame 2 0 c e true refl refl
  few_left (suc (suc zero)) c l (inr e) = few_frame 2 255 c e.0 false refl refl
  few_left (suc (suc (suc m))) c l e = let w : ⊥ = omega arith in absurd w

  frame_left : frame_from 0 0 (leading n r) ≡ r.frame
  frame_left = at (leb 3 r.count) refl
    where
      at : (q : Bool) → leb 3 r.count ≡ q → frame_from 0 0 (leading n r) ≡ r.frame
      at true q =
          let l = leb-true 3 r.count q in
          first_right (first_late l) (r.count - 3) (omega arith)
      at false q = let l = leb-false 3 r.count q in few_left r.count refl l (small l)

  -- THE SUM
  low_sum : r.count < 134 → r.sum ≡ 0
  low_sum l = at parts.1
    where
      at : Early r → r.sum ≡ 0
      at (inl e) = let h = leb-true 134 r.count e in let w : ⊥ = omega arith in absurd w
      at (inr e) = eqb-true r.sum 0 e.0

  -- the data that came
  data_left : (q : ℕ) → 6 + q ≤ r.count → take q (drop 6 (leading n r)) ≡ take q (rest n r.sum r.count)
  unfolding leading whole
  data_left q l =
      ap (λ (k : ℕ). take q (drop 6 (take k (whole n r)))) six
      ∙ take-take q (r.count - 6) (rest n r.sum r.count) (omega arith)
    where
      six : r.count ≡ suc (suc (suc (suc (suc (suc (r.count - 6))))))
      six = omega arith

  check_left : 4103 ≤ r.count → get_or (leading n r) 4102 0 ≡ 0
  unfolding leading whole rest
  check_left l =
      get_or-take r.count (whole n r) 4102 0 (omega arith)
      ∙ get_or-append (replicate n 0) (0xF7 ∷ replicate r.count 0) 0 4095
      (omega (arith, many, length-replicate {A = ℕ} n 0))
      ∙ get_or-replicate n 4095 0 0 (omega arith)

  -- as many full runs as it has counted
  abbrev runs : ℕ
  runs = min 32 ((r.count - 6) / 128)

  sum_left : sum_of (leading n r) ≡ r.sum
  sum_left = at (leb 134 r.count) (leb 4103 r.count) refl refl
    where
      runs_are : run_count (leading n r) ≡ runs
      runs_are = count_is (leading n r) ∙ ap (λ (k : ℕ). min 32 ((k - 6) / 128)) leading_length

      at : (p q : Bool) → leb 134 r.count ≡ p → leb 4103 r.count ≡ q → sum_of (leading n r) ≡ r.sum
      at false q e f =
          let l = leb-false 134 r.count e in
          sum_none (leading n r) (omega (arith, leading_length)) ∙ sym (low_sum l)
      at true false e f =
          let l = leb-true 134 r.count e in
          let m = leb-false 4103 r.count f in
          sum_before (leading n r) runs (omega (arith, leading_length)) runs_are
          ∙ ap (summed_with 0) (data_left (runs * 128) (omega arith))
          ∙ ap (λ (k : ℕ). summed_with 0 (take k (rest n r.sum r.count))) (one_more l m)
          ∙ run_sum n many r.sum r.count (runs * 128 - 1) (omega (arith, many)) byte
        where
          one_more : 134 ≤ r.count → r.count < 4103 → runs * 128 ≡ suc (runs * 128 - 1)
          one_more l m = omega arith
      at true true e f =
          let l = leb-true 4103 r.count f in
          sum_behind (leading n r) (omega (arith, leading_length))
          ∙ ap (λ (bs : List ℕ). checked_with (summed_with 0 bs) (get_or (leading n r) 4102 0))
          (data_left 4096 (omega arith))
          ∙ ap (λ (c : ℕ). checked_with (summed_with 0 (take 4096 (rest n r.sum r.count))) c) (check_left l)
          ∙ ap (λ (s : ℕ). checked_with s 0) (run_sum n many r.sum r.count 4095 (omega (arith, many)) byte)
          ∙ checked_sum n many r.sum r.count byte

-- two readers with equal numbers are equal
same_reader : (q r : Receiver) → q.count ≡ r.count → q.frame ≡ r.frame → q.sum ≡ r.sum → q.ended ≡ r.ended
    → q ≡ r
same_reader q r c f s e =
    ap (λ (k : ℕ). record { count = k; frame = q.frame; sum = q.sum; ended = q.ended }) c
    ∙ ap (λ (k : ℕ). record { count = r.count; frame = k; sum = q.sum; ended = q.ended }) f
    ∙ ap (λ (k : ℕ). record { count = r.count; frame = r.frame; sum = k; ended = q.ended }) s
    ∙ ap (λ (k : Bool). record { count = r.count; frame = r.frame; sum = r.sum; ended = k }) e

left_by : (n : ℕ) → n ≡ 4096 → (r : Receiver) → possible r ≡ true → r.count ≤ 18446744073709551615 → r.sum ≤ 255
    → (patch : List ℕ) → length patch ≡ 128
    → (came_all (record { receiver = fresh; patch = patch }) (leading n r)).receiver ≡ r
left_by n many r ok few byte patch w =
    let k = (known_all [] (record { receiver = fresh; patch = patch }) (leading n r) (known_first patch w)).0 in
    same_reader (came_all (record { receiver = fresh; patch = patch }) (leading n r)).receiver r
    (k.counted ∙ count_left) (k.framing ∙ frame_left n many r ok few byte)
    (k.summing ∙ sum_left n many r ok few byte)
    (k.going ∙ sym (parts n many r ok few byte).0)
  where
    count_left : min (0 + length (leading n r)) 18446744073709551615 ≡ r.count
    count_left = omega (arith, leading_length n many r ok few byte)

-- EVERY POSSIBLE READER is left by these bytes, whatever stood in the buffer; they are bytes where its numbers are
pub possible_left : (r : Receiver) → possible r ≡ true → r.count ≤ 18446744073709551615 → r.sum ≤ 255
    → (patch : List ℕ) → length patch ≡ 128
    → (came_all (record { receiver = fresh; patch = patch }) (leading 4096 r)).receiver ≡ r
possible_left r ok few byte patch w = left_by 4096 refl r ok few byte patch w

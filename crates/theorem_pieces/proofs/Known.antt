-- What a reader and its buffer are after any bytes, whatever calls took them. Assumes nothing.
use mathlib.Core.Path.{◌≡◌, refl, sym, ◌∙◌}
use mathlib.Core.Bool.{false, cond}
use mathlib.Core.List.{List, [], ◌∷◌, ◌++◌}
use Prim.Native.Nat.{ℕ, suc, ◌+◌, ◌*◌, ◌<◌, ◌≤◌}
use native.Mathlib.Nat.{zero-add}
use native.Mathlib.Omega.{arith}
use native.Mathlib.Decide.{dec_le, dec_lt}
use borrow.Author.Tests.{eq-eqb, ne_eqb, le-leb, lt-leb, lt-ltb}
use lib.Dec.{eqb, leb}
use lib.ListN.{length, get_or, take, drop, set, length-append, length-set, drop_of_length-le}
use lib.ListN.{get_or-append}
use lib.Seq.{take_all, take-suc-set, drop-append-le, get_or_at}
use Rattle.dump.specs.Dump.{total, largest_of}
use Rattle.bank.specs.Bank.{slot_of}
use Rattle.bank_pieces.specs.declared.Receiver.{Receiver}
use Rattle.bank_pieces.specs.Pieces.{Held, fresh, counting, place_in, slot_at, came, stored, passed}
use Rattle.bank_pieces.specs.Pieces.{summed_with, checked_with, frame_with}
use Rattle.bank_pieces.proofs.Bytes.{came_before, came_behind}
use Rattle.theorem_pieces.specs.Cuts.{run_count}
use Rattle.theorem_pieces.proofs.Frames.{frame_from, frame_snoc, frame_other}
use Rattle.theorem_pieces.proofs.Sums.{summed_append}
use Rattle.theorem_pieces.proofs.Runs.{data_keep, data_next}

-- the sum after some bytes: that of the full runs, and behind the checksum what that leaves
unfoldable pub sum_of : List ℕ → ℕ
sum_of xs =
    cond (leb 4103 (length xs)) (checked_with (summed_with 0 (take 4096 (drop 6 xs))) (get_or xs 4102 0))
    (summed_with 0 (take (run_count xs * 128) (drop 6 xs)))

-- the bytes of the patch at hand stand at the buffer's begin
abbrev Begun : List ℕ → List ℕ → Type 0
Begun xs patch =
    6 ≤ length xs → length xs < 4102 → take (place_in (length xs)) patch ≡ drop (6 + slot_at (length xs) * 128) xs

-- none of them where a patch begins
begun_none : (xs patch : List ℕ) → (6 ≤ length xs → place_in (length xs) ≡ 0) → Begun xs patch
begun_none xs patch e l m =
    let none = e l in
    rw none (sym (drop_of_length-le xs {i = 6 + slot_at (length xs) * 128} (omega arith)))

-- what is known after the bytes xs
pub record Known (xs : List ℕ) (h : Held) : Type 0 where
  pub counted : h.receiver.count ≡ counting 0 (length xs)
  pub going : h.receiver.ended ≡ false
  pub framing : h.receiver.frame ≡ frame_from 0 0 xs
  pub summing : h.receiver.sum ≡ sum_of xs
  pub wide : length h.patch ≡ 128
  pub begun : Begun xs h.patch

-- before the first byte
pub known_first : (patch : List ℕ) → length patch ≡ 128 → Known [] (record { receiver = fresh; patch = patch })
unfolding fresh sum_of frame_from run_count summed_with total largest_of
known_first patch w =
    record { counted = refl; going = refl; framing = refl; summing = refl; wide = w; begun = λ l m. refl }

-- the sum by how many full runs there are
pub sum_before : (xs : List ℕ) (n : ℕ) → length xs < 4103 → run_count xs ≡ n
    → sum_of xs ≡ summed_with 0 (take (n * 128) (drop 6 xs))
unfolding sum_of
sum_before xs n l e = rw (lt-leb 4103 (length xs) l, e)

-- and behind the checksum what it leaves
pub sum_behind : (xs : List ℕ) → 4103 ≤ length xs
    → sum_of xs ≡ checked_with (summed_with 0 (take 4096 (drop 6 xs))) (get_or xs 4102 0)
unfolding sum_of
sum_behind xs l = rw (le-leb 4103 (length xs) l)

-- before the first patch is complete there is none
pub sum_none : (xs : List ℕ) → length xs < 134 → sum_of xs ≡ 0
unfolding summed_with total largest_of run_count
sum_none xs l = sum_before xs 0 (omega arith) (omega arith)

-- a byte stands before the data, behind them, in a patch, or at its end
pub by_place : {P : Type 0} (n : ℕ) → (n < 6 → P) → (4102 ≤ n → P) → (6 ≤ n → n < 4102 → place_in n < 127 → P)
    → (6 ≤ n → n < 4102 → place_in n ≡ 127 → P) → P
by_place n before behind within end = elim (dec_le 6 n) [
  | no l ↦ before (omega arith)
  | yes l ↦ elim (dec_lt n 4102) [
    | no m ↦ behind (omega arith)
    | yes m ↦ elim (dec_lt (place_in n) 127) [ yes p ↦ within l m p | no p ↦ end l m (omega arith) ]
  ]
]

module _ (xs : List ℕ) (h : Held) (b : ℕ) (k : Known xs h) where
  abbrev more : List ℕ
  more = xs ++ (b ∷ [])

  abbrev r : Receiver
  r = h.receiver

  -- one byte longer
  longer : length more ≡ length xs + 1
  longer = length-append xs (b ∷ [])

  -- up to the end of a bank the count is how many bytes came
  counts : length xs ≤ 4104 → r.count ≡ length xs
  counts l = omega arith

  -- the frame, at any place
  frame_next : frame_with r.count r.frame b ≡ frame_from 0 0 more
  frame_next = elim (dec_le (length xs) 4104) [
    | yes l ↦ rw (counts l, k.framing, frame_snoc 0 0 xs b, zero-add (length xs))
    | no l ↦
        rw (
          k.framing,
          frame_snoc 0 0 xs b,
          frame_other r.count (frame_from 0 0 xs) b (omega arith) (λ e. omega arith),
          frame_other (0 + length xs) (frame_from 0 0 xs) b (omega arith) (λ e. omega arith),
        )
  ]

  -- the sum, where no run ends
  sum_same : length xs < 4102 → run_count more ≡ run_count xs → r.sum ≡ sum_of more
  unfolding run_count
  sum_same l e =
      rw (
        k.summing,
        sum_before xs (run_count xs) (omega arith) refl,
        sum_before more (run_count xs) (omega (arith, longer)) e,
        data_keep xs (b ∷ []) (run_count xs * 128) (omega arith),
      )

  -- A BYTE THAT IS NO DATA, by what it does to the sum
  next_passed : came h b ≡ record { receiver = passed r b; patch = h.patch }
      → cond (eqb r.count 4102) (checked_with r.sum b) r.sum ≡ sum_of more → Begun more h.patch
      → Known more (came h b)
  unfolding passed
  next_passed e s g =
      rw e
      (record {
        counted = omega (arith, longer);
        going = k.going;
        framing = frame_next;
        summing = s;
        wide = k.wide;
        begun = g;
      })

  -- before the data
  next_before : length xs < 6 → Known more (came h b)
  unfolding run_count
  next_before l =
      next_passed (came_before h b (omega arith))
      (rw (ne_eqb r.count 4102 (λ e. omega arith)) (sum_same (omega arith) (omega (arith, longer))))
      (begun_none more h.patch (λ p. omega (arith, longer)))

  -- behind the data: the checksum, and what does not count
  next_behind : 4102 ≤ length xs → Known more (came h b)
  unfolding run_count
  next_behind l =
      next_passed (came_behind h b (omega arith)) checked (λ p q. absurd (omega (arith, longer)))
    where
      checked : cond (eqb r.count 4102) (checked_with r.sum b) r.sum ≡ sum_of more
      checked =
          rw (k.summing, sum_behind more (omega (arith, longer)), data_keep xs (b ∷ []) 4096 (omega arith))
          (elim (dec_le (length xs) 4102) [
            | yes m ↦
                rw (
                  eq-eqb r.count 4102 (omega arith),
                  sum_before xs 32 (omega arith) (omega arith),
                  get_or_at xs b [] 0 4102 (omega arith),
                )
            | no m ↦
                rw (
                  ne_eqb r.count 4102 (λ e. omega arith),
                  sum_behind xs (omega arith),
                  get_or-append xs (b ∷ []) 0 4102 (omega arith),
                )
          ])

  -- A BYTE OF DATA
  module _ (from : 6 ≤ length xs) (to : length xs < 4102) where
    abbrev place : ℕ
    place = place_in (length xs)

    abbrev slot : ℕ
    slot = slot_at (length xs)

    abbrev written : List ℕ
    written = set h.patch place b

    -- stands in the buffer behind those of its patch
    stands : take (suc place) written ≡ drop (6 + slot * 128) more
    stands =
        rw (
          take-suc-set h.patch place b (omega arith),
          k.begun from to,
          drop-append-le (6 + slot * 128) xs (b ∷ []) (omega arith),
        )

    -- and is known by what it does to the sum
    next_data : cond (eqb place 127) (summed_with r.sum written) r.sum ≡ sum_of more → Begun more written
        → Known more (came h b)
    unfolding came stored
    next_data s g =
        rw (counts (omega arith), le-leb 6 (length xs) from, lt-ltb (length xs) 4102 to)
        (record {
          counted = omega (arith, longer);
          going = k.going;
          framing = rw (frame_other r.count r.frame b (omega arith) (λ e. omega arith)) at frame_next;
          summing = s;
          wide = length-set h.patch place b ∙ k.wide;
          begun = g;
        })

    -- one that does not end its patch
    next_within : place < 127 → Known more (came h b)
    unfolding run_count
    next_within p =
        let there : place_in (length xs + 1) ≡ suc place = omega arith in
        let same : slot_at (length xs + 1) ≡ slot = omega arith in
        next_data (rw (ne_eqb place 127 (λ e. omega arith)) (sum_same to (omega (arith, longer))))
        (λ u v. rw (longer, there, same) stands)

    -- one that does: the buffer is the patch
    module _ (p : place ≡ 127) where
      run_whole : written ≡ slot_of more slot
      unfolding slot_of
      run_whole =
          let whole : suc place ≡ 128 = omega arith in
          let all = take_all 128 written (omega (arith, length-set h.patch place b)) in
          rw (← stands, whole, all, all)

      -- by the count as well
      pub run_is : set h.patch (place_in r.count) b ≡ slot_of more slot
      run_is = rw (counts (omega arith)) run_whole

      -- the sum goes on with it
      sum_next : summed_with r.sum written ≡ sum_of more
      unfolding run_count
      sum_next =
          let one_more : suc slot * 128 ≡ slot * 128 + 128 = omega arith in
          rw (
            run_whole,
            k.summing,
            sum_before xs slot (omega arith) (omega arith),
            sum_before more (suc slot) (omega (arith, longer)) (omega (arith, longer)),
            ← data_keep xs (b ∷ []) (slot * 128) (omega arith),
            summed_append,
            one_more,
            data_next,
          )

      -- and the next patch begins
      next_end : Known more (came h b)
      next_end = next_data (rw (eq-eqb place 127 p) sum_next) (begun_none more written (λ u. omega (arith, longer)))

-- WHAT IS KNOWN AFTER ONE BYTE MORE
pub known_next : (xs : List ℕ) (h : Held) (b : ℕ) → Known xs h → Known (xs ++ (b ∷ [])) (came h b)
known_next xs h b k =
    by_place (length xs) (next_before xs h b k) (next_behind xs h b k) (next_within xs h b k) (next_end xs h b k)

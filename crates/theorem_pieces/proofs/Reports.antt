-- The reports byte by byte: after any bytes they are the full runs, and a call reports at most one, at its last byte.
-- Assumes nothing.
use mathlib.Core.Path.{◌≡◌, refl}
use mathlib.Core.Bool.{Bool, true, false, cond, ◌&&◌, and-false}
use mathlib.Core.List.{List, [], ◌∷◌, ◌++◌, append-nil, append_assoc}
use Prim.Native.Nat.{ℕ, suc, ◌+◌, ◌<◌, ◌≤◌}
use native.Mathlib.Omega.{arith}
use native.Mathlib.Decide.{dec_le}
use borrow.Author.Tests.{eq-eqb, ne_eqb, le-leb, lt-leb, lt-ltb, le-ltb}
use lib.Dec.{eqb, leb, ltb}
use lib.ListN.{length, set, length-append}
use lib.Seq.{append_snoc}
use Rattle.bank_pieces.specs.Pieces.{Held, counting, place_in, slot_at, stored, passed, came, came_all, missing}
use Rattle.theorem_pieces.specs.Cuts.{Report, run_count, runs_below, runs_of}
use Rattle.theorem_pieces.proofs.Runs.{runs_keep}
use Rattle.theorem_pieces.proofs.Known.{Known, by_place, known_next, run_is}

-- how many bytes came
abbrev count : Held → ℕ
count h = h.receiver.count

-- whether the byte at a place ends a patch
abbrev ends : ℕ → Bool
ends n = (leb 6 n && ltb n 4102) && eqb (place_in n) 127

-- what a byte reports, and what several do
abbrev report : Held → ℕ → List Report
report h b = cond (ends (count h)) (record { slot = slot_at (count h); bytes = (came h b).patch } ∷ []) []

unfoldable pub reports : Held → List ℕ → List Report
reports h [] = []
reports h (b ∷ bs) = report h b ++ reports (came h b) bs

-- where a patch ends, and where not
end_here : (n : ℕ) → 6 ≤ n → n < 4102 → place_in n ≡ 127 → ends n ≡ true
end_here n l m e = rw (le-leb 6 n l, lt-ltb n 4102 m, eq-eqb (place_in n) 127 e)

none_before : (n : ℕ) → n < 6 → ends n ≡ false
none_before n l = rw (lt-leb 6 n l)

none_behind : (n : ℕ) → 4102 ≤ n → ends n ≡ false
none_behind n l = rw (le-ltb n 4102 l, and-false)

none_within : (n : ℕ) → (place_in n ≡ 127 → ⊥) → ends n ≡ false
none_within n e = rw (ne_eqb (place_in n) 127 e, and-false)

-- a byte of data goes to its place
came_patch : (h : Held) (b : ℕ) → 6 ≤ count h → count h < 4102
    → (came h b).patch ≡ set h.patch (place_in (count h)) b
unfolding came stored
came_patch h b l m = rw (le-leb 6 (count h) l, lt-ltb (count h) 4102 m)

module _ (xs : List ℕ) (h : Held) (b : ℕ) (k : Known xs h) where
  abbrev more : List ℕ
  more = xs ++ (b ∷ [])

  -- one byte longer
  longer : length more ≡ length xs + 1
  longer = length-append xs (b ∷ [])

  -- a byte that ends no patch
  runs_same : ends (count h) ≡ false → run_count more ≡ run_count xs → runs_of xs ++ report h b ≡ runs_of more
  unfolding runs_of run_count
  runs_same e f = rw (e, f, append-nil, runs_keep xs (b ∷ []) (run_count xs) (omega arith))

  -- and one that does
  runs_more : 6 ≤ count h → count h < 4102 → place_in (count h) ≡ 127 → runs_of xs ++ report h b ≡ runs_of more
  unfolding runs_of run_count runs_below
  runs_more l m e =
      let same : count h ≡ length xs = omega arith in
      let before : run_count xs ≡ slot_at (length xs) = omega arith in
      let behind : run_count more ≡ suc (slot_at (length xs)) = omega (arith, longer) in
      rw (
        end_here (count h) l m e,
        before,
        behind,
        came_patch h b l m,
        run_is xs h b k (omega arith) (omega arith) (omega arith),
        same,
        runs_keep xs (b ∷ []) (slot_at (length xs)) (omega arith),
      )

  -- so the reports go on as the runs do
  runs_next : runs_of xs ++ report h b ≡ runs_of more
  unfolding run_count
  runs_next =
      by_place (count h) (λ l. runs_same (none_before (count h) l) (omega (arith, longer)))
      (λ l. runs_same (none_behind (count h) l) (omega (arith, longer)))
      (λ l m p. runs_same (none_within (count h) (λ e. omega arith)) (omega (arith, longer))) runs_more

-- WHAT IS KNOWN after any bytes more
pub known_all : (xs : List ℕ) (h : Held) (ys : List ℕ) → Known xs h
    → Known (xs ++ ys) (came_all h ys) × (runs_of xs ++ reports h ys ≡ runs_of (xs ++ ys))
unfolding came_all reports
known_all xs h [] k = rw (append-nil xs) (k, append-nil (runs_of xs))
known_all xs h (b ∷ bs) k =
    rw (← append_snoc xs b bs, ← append_assoc (runs_of xs) (report h b) (reports (came h b) bs), runs_next xs h b k)
    (known_all (xs ++ (b ∷ [])) (came h b) bs (known_next xs h b k))

-- THE REPORTS OF A CALL: each byte is counted
count_next : (h : Held) (b : ℕ) → count (came h b) ≡ counting (count h) 1
unfolding came stored passed
count_next h b = at (leb 6 (count h) && ltb (count h) 4102)
  where
    at : (q : Bool) → count (cond q (stored h b) (record { receiver = passed h.receiver b; patch = h.patch }))
        ≡ counting (count h) 1
    at true = refl
    at false = refl

-- up to the checksum by one
count_on : (h : Held) (b : ℕ) → count h < 4102 → count (came h b) ≡ count h + 1
count_on h b l = omega (arith, count_next h b)

-- none behind the last patch
pub reports_rest : (h : Held) (ys : List ℕ) → 4102 ≤ count h → reports h ys ≡ []
unfolding reports
reports_rest h [] l = refl
reports_rest h (b ∷ bs) l =
    rw (none_behind (count h) l) (reports_rest (came h b) bs (omega (arith, count_next h b)))

-- nothing ends before the end of the patch at hand
not_yet : (n : ℕ) → 1 < missing n → ends n ≡ false
unfolding missing
not_yet n l =
    elim (dec_le 6 n) [ yes m ↦ none_within n (λ d. omega arith) | no m ↦ none_before n (omega arith) ]

-- a byte that does not end it leaves one less to come
one_less : (n c : ℕ) → n < 4102 → 1 < missing n → c ≡ n + 1
    → (missing c + 1 ≡ missing n) × (c < 4102) × (slot_at c ≡ slot_at n)
unfolding missing
one_less n c l h e = rw e (elim (dec_le 6 n) [ yes m ↦ omega arith | no m ↦ omega arith ])

-- none before the end of the patch at hand
pub reports_few : (h : Held) (ys : List ℕ) → count h < 4102 → length ys < missing (count h) → reports h ys ≡ []
unfolding reports
reports_few h [] l m = refl
reports_few h (b ∷ bs) l m =
    let less = one_less (count h) (count (came h b)) l (omega arith) (count_on h b l) in
    rw (not_yet (count h) (omega arith)) (reports_few (came h b) bs less.1 (omega arith))

-- and one at its end
pub reports_whole : (h : Held) (ys : List ℕ) → count h < 4102 → length ys ≡ missing (count h)
    → reports h ys ≡ record { slot = slot_at (count h); bytes = (came_all h ys).patch } ∷ []
unfolding reports came_all missing
reports_whole h [] l m = absurd (omega arith)
reports_whole h (b ∷ []) l m = rw (end_here (count h) (omega arith) l (omega arith))
reports_whole h (b ∷ d ∷ bs) l m =
    let less = one_less (count h) (count (came h b)) l (omega arith) (count_on h b l) in
    rw (not_yet (count h) (omega arith), ← less.2) (reports_whole (came h b) (d ∷ bs) less.1 (omega arith))

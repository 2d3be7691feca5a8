-- What several bytes do: those that are no data pass one after the other, and those of a patch stand behind each other
-- in the lent buffer. Assumes nothing.
use mathlib.Core.Path.{◌≡◌, refl, ◌∙◌, ap}
use mathlib.Core.Bool.{cond, and-false}
use mathlib.Core.List.{List, [], ◌∷◌, ◌++◌}
use Prim.Native.Nat.{ℕ, zero, suc, ◌+◌, ◌<◌, ◌≤◌}
use native.Mathlib.Omega.{arith}
use borrow.Author.Tests.{eq-eqb, ne_eqb, le-leb, lt-leb, lt-ltb, le-ltb}
use lib.Dec.{eqb}
use lib.ListN.{length, get_or, take, set}
use lib.Seq.{paste, paste-zero, paste-suc, take-suc}
use Rattle.bank_pieces.specs.declared.Receiver.{Receiver}
use Rattle.bank_pieces.specs.Pieces.{Held, passed, passed_all, place_in, stored, came, came_all, summed_with}
use Rattle.bank_pieces.specs.Pieces.{counting}

-- bytes in two parts
pub came_append : (h : Held) (xs ys : List ℕ) → came_all h (xs ++ ys) ≡ came_all (came_all h xs) ys
unfolding came_all
came_append h [] ys = refl
came_append h (x ∷ xs) ys = came_append (came h x) xs ys

pub passed_append : (r : Receiver) (xs ys : List ℕ) → passed_all r (xs ++ ys) ≡ passed_all (passed_all r xs) ys
passed_append r [] ys = refl
passed_append r (x ∷ xs) ys = passed_append (passed r x) xs ys

-- a byte before the data, and one behind them
abbrev passing : Held → Receiver → Held
passing h r = record { receiver = r; patch = h.patch }

pub came_before : (h : Held) (b : ℕ) → h.receiver.count < 6 → came h b ≡ passing h (passed h.receiver b)
unfolding came
came_before h b l = rw (lt-leb 6 h.receiver.count l)

pub came_behind : (h : Held) (b : ℕ) → 4102 ≤ h.receiver.count → came h b ≡ passing h (passed h.receiver b)
unfolding came
came_behind h b l = rw (le-ltb h.receiver.count 4102 l, and-false)

-- and several
count_less : (r : Receiver) (b n : ℕ) → r.count + suc n ≤ 6 → (passed r b).count + n ≤ 6
unfolding passed
count_less r b n l = omega arith

count_more : (r : Receiver) (b : ℕ) → 4102 ≤ r.count → 4102 ≤ (passed r b).count
unfolding passed
count_more r b l = omega arith

pub came_first : (h : Held) (bs : List ℕ) → h.receiver.count + length bs ≤ 6
    → came_all h bs ≡ passing h (passed_all h.receiver bs)
unfolding came_all
came_first h [] l = refl
came_first h (b ∷ bs) l =
    ap (λ (k : Held). came_all k bs) (came_before h b (omega arith))
    ∙ came_first (passing h (passed h.receiver b)) bs (count_less h.receiver b (length bs) l)

pub came_rest : (h : Held) (bs : List ℕ) → 4102 ≤ h.receiver.count
    → came_all h bs ≡ passing h (passed_all h.receiver bs)
unfolding came_all
came_rest h [] l = refl
came_rest h (b ∷ bs) l =
    ap (λ (k : Held). came_all k bs) (came_behind h b l)
    ∙ came_rest (passing h (passed h.receiver b)) bs (count_more h.receiver b l)

-- a reader and a buffer, some bytes on
abbrev pub held : Receiver → ℕ → ℕ → List ℕ → Held
held r count sum patch = record {
  receiver = record { count = count; frame = r.frame; sum = sum; ended = r.ended };
  patch = patch;
}

module _ (r : Receiver) (piece patch : List ℕ) (wide : length patch ≡ 128) (from : 6 ≤ r.count) (to : r.count < 4102)
  where
    abbrev at : ℕ
    at = place_in r.count

    abbrev some : ℕ → Held
    some j = held r (r.count + j) r.sum (paste patch at piece j)

    -- one byte of data more
    stored_next : (j : ℕ) → j < length piece → at + j < 128 → (sum : ℕ)
        → cond (eqb (place_in (r.count + j)) 127) (summed_with r.sum (paste patch at piece (suc j))) r.sum ≡ sum
        → came (some j) (get_or piece j 0) ≡ held r (r.count + suc j) sum (paste patch at piece (suc j))
    unfolding came stored
    stored_next j l room sum e =
        rw (le-leb 6 (r.count + j) (omega arith), lt-ltb (r.count + j) 4102 (omega arith), there, more, e) refl
      where
        there : set (paste patch at piece j) (place_in (r.count + j)) (get_or piece j 0) ≡ paste patch at piece (suc j)
        there =
            ap (λ (k : ℕ). set (paste patch at piece j) k (get_or piece j 0)) (omega arith)
            ∙ paste-suc patch at piece j 0 (omega arith) l

        more : counting (r.count + j) 1 ≡ r.count + suc j
        more = omega arith

    -- up to the end of the patch, but for its last byte
    pub stored_some : (j : ℕ) → j ≤ length piece → at + j < 128
        → came_all (record { receiver = r; patch = patch }) (take j piece) ≡ some j
    unfolding came_all
    stored_some zero l room =
        ap (λ (p : List ℕ). held r r.count r.sum p) (paste-zero patch at piece)
        ∙ ap (λ (k : ℕ). held r k r.sum (paste patch at piece zero)) (omega arith)
    stored_some (suc j) l room =
        ap (came_all (record { receiver = r; patch = patch })) (take-suc piece j 0 (omega arith))
        ∙ came_append (record { receiver = r; patch = patch }) (take j piece) (get_or piece j 0 ∷ [])
        ∙ ap (λ (h : Held). came h (get_or piece j 0)) (stored_some j (omega arith) (omega arith))
        ∙ stored_next j (omega arith) (omega arith) r.sum
        (rw (ne_eqb (place_in (r.count + j)) 127 (λ e. omega arith)))

    -- and with it
    pub stored_whole : (j : ℕ) → suc j ≤ length piece → at + suc j ≡ 128
        → came_all (record { receiver = r; patch = patch }) (take (suc j) piece)
        ≡ held r (r.count + suc j) (summed_with r.sum (paste patch at piece (suc j))) (paste patch at piece (suc j))
    unfolding came_all
    stored_whole j l full =
        ap (came_all (record { receiver = r; patch = patch })) (take-suc piece j 0 (omega arith))
        ∙ came_append (record { receiver = r; patch = patch }) (take j piece) (get_or piece j 0 ∷ [])
        ∙ ap (λ (h : Held). came h (get_or piece j 0)) (stored_some j (omega arith) (omega arith))
        ∙ stored_next j (omega arith) (omega arith) (summed_with r.sum (paste patch at piece (suc j)))
        (rw (eq-eqb (place_in (r.count + j)) 127 (omega arith)))

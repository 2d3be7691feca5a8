-- A block in equal parts: a part is read and written by its place, and the parts make the whole again.
-- Assumes nothing.
use mathlib.Core.Path.{◌≡◌, refl, sym, ap, ◌∙◌}
use Prim.Native.Nat.{ℕ, zero, suc, ◌+◌, ◌-◌, ◌*◌, ◌≤◌, ◌<◌}
use native.Mathlib.Nat.{suc-mul, zero-mul, add_comm, mul-le-mul_right, le_of_suc-le-suc, not-suc-le-zero}
use native.Mathlib.Omega.{arith}
use mathlib.Core.List.{List, [], ◌∷◌, ◌++◌, append_assoc}
use lib.ListN.{length, get_or, set, take, drop, length-drop, take-append-drop}
use lib.Seq.{length-take-le, take-add, drop-drop, take_at, drop_at}
use lib.Ieee.{Float}
use borrow.Rule.Slice.PartMut.{put_mid}
use Rattle.voice_block.specs.Quarters.{split, joined}

-- a part ends within the whole
pub within : (q k n : ℕ) → q < k → q * n + n ≤ k * n
within q k n h = rw (← suc-mul q n) (mul-le-mul_right n h)

-- what is left after the first part
rest : (n k : ℕ) (l : List Float) → length l ≡ suc k * n → length (drop n l) ≡ k * n
rest n k l e = length-drop n l ∙ (rw suc-mul at (ap (λ (m : ℕ). m - n) e)) ∙ omega arith

first : (n k : ℕ) (l : List Float) → length l ≡ suc k * n → length (take n l) ≡ n
first n k l e = length-take-le n l (omega (arith, suc-mul k n))

-- each part has its size
pub size_split : (n k q : ℕ) (l : List Float) → q < k → length l ≡ k * n → length (get_or (split n k l) q []) ≡ n
unfolding split
size_split n zero q l h e = absurd (not-suc-le-zero h)
size_split n (suc k) zero l h e = first n k l e
size_split n (suc k) (suc q) l h e = size_split n k q (drop n l) (le_of_suc-le-suc h) (rest n k l e)

-- a part is read
get_split : (n k q : ℕ) (l : List Float) → q < k → get_or (split n k l) q [] ≡ take n (drop (q * n) l)
unfolding split
get_split n zero q l h = absurd (not-suc-le-zero h)
get_split n (suc k) zero l h = rw zero-mul
get_split n (suc k) (suc q) l h =
    get_split n k q (drop n l) (le_of_suc-le-suc h) ∙ rw (drop-drop, suc-mul, add_comm n (q * n))

-- a part is written
set_split : (n k q : ℕ) (l new : List Float) → q < k → length l ≡ k * n → length new ≡ n
    → split n k (put_mid (q * n) n l new) ≡ set (split n k l) q new
unfolding split
set_split n zero q l new h e f = absurd (not-suc-le-zero h)
set_split n (suc k) zero l new h e f = rw (zero-mul, take_at new (drop n l) n f, drop_at new (drop n l) n f)
set_split n (suc k) (suc q) l new h e f =
    let x : put_mid (suc q * n) n l new ≡ take n l ++ put_mid (q * n) n (drop n l) new
    = rw (suc-mul, add_comm (q * n) n, take-add n (q * n) l, append_assoc, ← drop-drop (q * n) n l) in
    rw (
      x,
      take_at (take n l) (put_mid (q * n) n (drop n l) new) n (first n k l e),
      drop_at (take n l)
          (put_mid (q * n) n (drop n l) new) n (first n k l e),
    )
    (ap (λ (t : List (List Float)). take n l ∷ t)
    (set_split n k q (drop n l) new (le_of_suc-le-suc h) (rest n k l e) f))

-- the parts make the whole
pub joined_split : (n k : ℕ) (l : List Float) → length l ≡ k * n → joined (split n k l) ≡ l
unfolding split joined
joined_split n zero [] e = refl
joined_split n zero (x ∷ l) e = absurd (omega (arith, zero-mul n))
joined_split n (suc k) l e =
    ap (λ (t : List Float). take n l ++ t) (joined_split n k (drop n l) (rest n k l e)) ∙ take-append-drop n l

-- ---- at the places that the code computes: q's quarter starts at a, and ends n after it

module _ (n q a : ℕ) (l : List Float) (h : q < 4) (w : length l ≡ 4 * n) (e : a ≡ q * n) where
  pub read_at : take (a + n - a) (drop a l) ≡ get_or (split n 4 l) q []
  read_at = let k : a + n - a ≡ n = omega arith in rw (k, e) (sym (get_split n 4 q l h))

  length_at : length (take (a + n - a) (drop a l)) ≡ n
  length_at = length-take-le (a + n - a) (drop a l) (rw (length-drop a l) (omega (arith, within q 4 n h))) ∙ omega arith

  pub write_at : (new : List Float) → length new ≡ length (take (a + n - a) (drop a l))
      → split n 4 (put_mid a (a + n - a) l new) ≡ set (split n 4 l) q new
  write_at new f = let k : a + n - a ≡ n = omega arith in rw (k, e) (set_split n 4 q l new h w (f ∙ length_at))

  -- what was copied aside is the quarter
  pub aside_at : (aside : List Float) → take (length (take (a + n - a) (drop a l))) aside ≡ take (a + n - a) (drop a l)
      → take n aside ≡ get_or (split n 4 l) q []
  aside_at aside f = (rw length_at at f) ∙ read_at

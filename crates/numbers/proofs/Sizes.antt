-- Numbers of a size of at most n / d, and numbers from 0 to 1: fractions and sums that are, each rounding keeping the
-- order. Assumes nothing.
use Rattle.std.proofs.Common.{◌≡◌, ℕ, zero, suc, ◌+◌, ◌-◌, ◌*◌, ◌^◌, ◌<◌, ◌≤◌, Bool, true, false, cond, ltb, ℤ, pos}
use Rattle.std.proofs.Common.{sym, refl, subst, mul-le-mul, arith}
use lib.Ieee.{Float, fin, binary32, up, down, neg, sum, div, round, of_int}
use lib.Ieee.Fits.{up_pos, down_pos}
use Rattle.numbers.specs.F32.{◌⊘◌, decimal, as_float}
use Rattle.numbers.proofs.Rounded.{either_sign, Upto, upto, rounded_upto}

-- ---- of a size of at most n / d

pub data Held (n d : ℕ) : Float → Type 0 where
  held : (s : Bool) (m : ℕ) (e : ℤ) → m * up e * d ≤ n * down e → Held n d (fin s m e)

either_held : (n d : ℕ) (x : Float) → Upto n d x → Held n d x × Held n d (neg x)
unfolding neg
either_held n d _ (upto m e h) = (held false m e h, held true m e h)

pub signed : (n d a c : ℕ) → Upto n d (round binary32 false a c) → (s : Bool) → Held n d (round binary32 s a c)
signed n d a c u =
    let x = either_held n d (round binary32 false a c) u in
    either_sign (Held n d) a c x.0 x.1

pub upto_one : (a c : ℕ) → 0 < c → a ≤ c → Upto 1 1 (round binary32 false a c)
upto_one a c p h = rounded_upto 1 (pos 0) a c (unfold round in refl) p (omega arith)

pub rounded_small : (s : Bool) (a c : ℕ) → 0 < c → a ≤ c → Held 1 1 (round binary32 s a c)
rounded_small s a c p h = signed 1 1 a c (upto_one a c p h) s

-- nothing, rounded, is nothing
pub rounded_none : (s : Bool) (a c : ℕ) → a ≡ 0 → 0 < c → Held 0 1 (round binary32 s a c)
rounded_none s a c z p = signed 0 1 a c (rounded_upto 0 (pos 0) a c (unfold round in refl) p (omega arith)) s

-- a sum of two that are at most 1 is, if it is where their signs are the same
unlike_small : (a b c : ℕ) (s u : Bool) → 0 < c → a ≤ c → b ≤ c → (t : Bool)
    → Held 1 1 (cond t (round binary32 s (b - a) c) (round binary32 u (a - b) c))
unlike_small a b c s u p h k true = rounded_small s (b - a) c p (omega arith)
unlike_small a b c s u p h k false = rounded_small u (a - b) c p (omega arith)

pub sum_bound : (s : Bool) (a : ℕ) (t : Bool) (b c : ℕ) → 0 < c → a ≤ c → b ≤ c → (s ≡ t → a + b ≤ c)
    → Held 1 1 (sum binary32 s a t b c)
unfolding sum
sum_bound false a false b c p h k l = rounded_small false (a + b) c p (l refl)
sum_bound true a true b c p h k l = rounded_small true (a + b) c p (l refl)
sum_bound false a true b c p h k l = unlike_small a b c true false p h k (ltb a b)
sum_bound true a false b c p h k l = unlike_small a b c false (ltb b a) p h k (ltb a b)

-- ---- from 0 to 1

pub data Share : Float → Type 0 where
  share : (m : ℕ) (e : ℤ) → m * up e ≤ down e → Share (fin false m e)
  no_share : (e : ℤ) → Share (fin true 0 e)

upto_share : (x : Float) → Upto 1 1 x → Share x
upto_share _ (upto m e h) = share m e (omega arith)

pub rounded_share : (n d : ℕ) → 0 < d → n ≤ d → Share (round binary32 false n d)
rounded_share n d p h = upto_share (round binary32 false n d) (upto_one n d p h)

pub no_digits : (m : ℕ) (e : ℤ) → m * up e ≡ 0 → m ≡ 0
no_digits zero e h = refl
no_digits (suc m) e h = let o : 1 ≤ suc m = omega arith in let q = mul-le-mul o (up_pos e) in omega arith

-- nothing, with either sign
pub none_share : (x : Float) → Held 0 1 x → Share x
none_share _ (held false m e h) = share m e (omega arith)
none_share _ (held true m e h) =
    subst (λ (n : ℕ). Share (fin true n e)) (sym (no_digits m e (omega arith))) (no_share e)

-- a word of 32 bits over 2 ^ 32
over_all : (x : Float) → Upto (1 * 2 ^ 32) 1 x → Share (x ⊘ decimal 4294967296 0)
unfolding div decimal
over_all _ (upto m e h) =
    let p = down_pos e in rounded_share (m * up e * 1) (1 * 2 ^ 32 * down e) (omega arith) (omega arith)

pub word_share : (n : ℕ) → n < 2 ^ 32 → Share (as_float n ⊘ decimal 4294967296 0)
unfolding of_int
word_share n h =
    over_all (as_float n) (rounded_upto 1 (pos 32) n 1 (unfold round in refl) (omega arith) (omega arith))

-- Laws of any table of fields: what its bytes are, block by block, and that each field is read back from them. Assumes
-- nothing.
use mathlib.Core.Path.{◌≡◌, refl, sym, ◌∙◌, ap, ap₂}
use mathlib.Core.Bool.{Bool, true, false, cond, ◌&&◌, true≢false, and-eq-true_iff}
use mathlib.Core.List.{List, [], ◌∷◌, ◌++◌, map}
use Prim.Native.Nat.{ℕ, zero, suc, ◌+◌, ◌-◌, ◌*◌, ◌/◌, ◌%◌, ◌^◌, ◌<◌, ◌≤◌}
use native.Mathlib.Nat.{add-zero, zero-add, suc-add, add-suc, zero-mul, add_assoc, add_comm, add-mul, mul_assoc}
use native.Mathlib.Nat.{mod-eq_of_lt, mod-lt, mod-mod, mul-div_cancel, add-mul-mod_self_right}
use native.Mathlib.Omega.{arith}
use borrow.Author.Tests.{eqb-true, eqb-false, eq-eqb, ne_eqb, leb-true, lt-leb, le-ltb, ltb-true}
use lib.Dec.{eqb, leb, ltb}
use lib.ListN.{length, get_or}
use lib.Pow.{pow_pos, pow-add, shl_lt, shr-shr, high}
use Rattle.patch.specs.Layout.{Field, later}
use Rattle.patch.specs.Packed.{within}
use Rattle.patch.proofs.Each.{every, Each, each, both_each, each_within}
use Rattle.patch_packer.specs.Packing.{placed, byte_of, bytes_of}

module _ {N : Type 0} (field : N → Field) (g : N → ℕ) where
  pub length_bytes : (ns : List N) (k count : ℕ) → length (bytes_of field g ns k count) ≡ count
  unfolding bytes_of
  length_bytes ns k zero = refl
  length_bytes ns k (suc count) = ap suc (length_bytes ns (suc k) count)

  pub get_d_bytes : (ns : List N) (count k i : ℕ) → i < count
      → get_or (bytes_of field g ns k count) i 0 ≡ byte_of field g ns (k + i)
  unfolding bytes_of
  get_d_bytes ns zero k i h = let z : ⊥ = omega arith in absurd z
  get_d_bytes ns (suc count) k zero h = ap (byte_of field g ns) (sym (add-zero k))
  get_d_bytes ns (suc count) k (suc i) h =
      get_d_bytes ns count (suc k) i (omega arith) ∙ ap (byte_of field g ns) (omega arith)

  byte_append : (xs ys : List N) (k : ℕ) → byte_of field g (xs ++ ys) k ≡ byte_of field g xs k + byte_of field g ys k
  unfolding byte_of
  byte_append [] ys k = sym (zero-add (byte_of field g ys k))
  byte_append (x ∷ xs) ys k = at (eqb (field x).byte k) (byte_append xs ys k)
    where
      at : (b : Bool) → byte_of field g (xs ++ ys) k ≡ byte_of field g xs k + byte_of field g ys k
          → cond b (placed (field x) (g x) + byte_of field g (xs ++ ys) k) (byte_of field g (xs ++ ys) k)
          ≡ cond b (placed (field x) (g x) + byte_of field g xs k) (byte_of field g xs k) + byte_of field g ys k
      at true e =
          ap (λ (y : ℕ). placed (field x) (g x) + y) e
          ∙ sym (add_assoc (placed (field x) (g x)) (byte_of field g xs k) (byte_of field g ys k))
      at false e = e

  -- a byte where no field lies is 0
  byte_none : (t : ℕ → Bool) (k : ℕ) → t k ≡ false → (ns : List N) → every (λ n. t (field n).byte) ns ≡ true
      → byte_of field g ns k ≡ 0
  unfolding byte_of every
  byte_none t k e [] h = refl
  byte_none t k e (n ∷ ns) h =
      let p = (and-eq-true_iff (t (field n).byte) (every (λ m. t (field m).byte) ns)).0 h in
      at (eqb (field n).byte k) refl p.0 (byte_none t k e ns p.1)
    where
      at : (b : Bool) → eqb (field n).byte k ≡ b → t (field n).byte ≡ true → byte_of field g ns k ≡ 0
          → cond b (placed (field n) (g n) + byte_of field g ns k) (byte_of field g ns k) ≡ 0
      at true q p r = let z : true ≡ false = sym p ∙ ap t (eqb-true (field n).byte k q) ∙ e in absurd (true≢false z)
      at false q p r = r

  module _ (m : ℕ) (xs ys : List N) (low : every (λ n. ltb (field n).byte m) xs ≡ true)
      (high : every (λ n. leb m (field n).byte) ys ≡ true) where
    left_byte : (k : ℕ) → k < m → byte_of field g (xs ++ ys) k ≡ byte_of field g xs k
    left_byte k h =
        byte_append xs ys k ∙ ap (λ (x : ℕ). byte_of field g xs k + x)
        (byte_none (λ b. leb m b) k (lt-leb m k h) ys high) ∙ add-zero (byte_of field g xs k)

    right_byte : (k : ℕ) → m ≤ k → byte_of field g (xs ++ ys) k ≡ byte_of field g ys k
    right_byte k h =
        byte_append xs ys k ∙ ap (λ (x : ℕ). x + byte_of field g ys k)
        (byte_none (λ b. ltb b m) k (le-ltb k m h) xs low)
        ∙ zero-add (byte_of field g ys k)

    right_bytes : (count k : ℕ) → m ≤ k → bytes_of field g (xs ++ ys) k count ≡ bytes_of field g ys k count
    unfolding bytes_of
    right_bytes zero k h = refl
    right_bytes (suc count) k h = ap₂ ◌∷◌ (right_byte k h) (right_bytes count (suc k) (omega arith))

    -- where some fields lie before byte m and the others from it on, the bytes are those of the first and then those
    -- of the others
    pub bytes_append : (a b k : ℕ) → k + a ≡ m
        → bytes_of field g (xs ++ ys) k (a + b) ≡ bytes_of field g xs k a ++ bytes_of field g ys m b
    unfolding bytes_of
    bytes_append zero b k e =
        let q : k ≡ m = omega arith in
        ap (bytes_of field g (xs ++ ys) k) (zero-add b) ∙ right_bytes b k (omega arith)
        ∙ ap (λ (x : ℕ). bytes_of field g ys x b) q
    bytes_append (suc a) b k e =
        ap (bytes_of field g (xs ++ ys) k) (suc-add a b)
        ∙ ap₂ ◌∷◌ (left_byte k (omega arith)) (bytes_append a b (suc k) (omega arith))

-- a number that is at most its field's largest is written whole
pub fits_width : (x : ℕ) (f : Field) → ltb f.largest (2 ^ f.width) ≡ true → x ≤ f.largest → x % 2 ^ f.width ≡ x
fits_width x f t h = mod-eq_of_lt (omega (arith, ltb-true f.largest (2 ^ f.width) t))

module _ {N : Type 0} (field : N → Field) (g : N → ℕ) where
  -- byte k with the numbers as they are, each at its bits and none cut to its width; and count such bytes
  unfoldable pub sum_of : List N → ℕ → ℕ
  sum_of [] k = 0
  sum_of (n ∷ ns) k = cond (eqb (field n).byte k) (g n * 2 ^ (field n).bit + sum_of ns k) (sum_of ns k)

  unfoldable pub sums_of : List N → ℕ → ℕ → List ℕ
  sums_of ns k zero = []
  sums_of ns k (suc count) = sum_of ns k ∷ sums_of ns (suc k) count

  whole_byte : (ns : List N) (k : ℕ) → Each (λ n. g n % 2 ^ (field n).width ≡ g n) ns → byte_of field g ns k
      ≡ sum_of ns k
  unfolding byte_of placed sum_of
  whole_byte [] k es = refl
  whole_byte (n ∷ ns) k (e, es) = rw (e, whole_byte ns k es)

  -- numbers that fit need no cutting
  module _ (ns : List N) (fits : within field g ns ≡ true)
      (wide : every (λ n. ltb (field n).largest (2 ^ (field n).width)) ns ≡ true) where
    whole_numbers : Each (λ n. g n % 2 ^ (field n).width ≡ g n) ns
    whole_numbers =
        both_each (λ n t h. fits_width (g n) (field n) t h) ns
        (each (λ n. ltb (field n).largest (2 ^ (field n).width)) ns wide) (each_within field g ns fits)

    pub whole_bytes : (k count : ℕ) → bytes_of field g ns k count ≡ sums_of ns k count
    unfolding bytes_of sums_of
    whole_bytes k zero = refl
    whole_bytes k (suc count) = ap₂ ◌∷◌ (whole_byte ns k whole_numbers) (whole_bytes (suc k) count)

-- equal numbers give equal bytes
pub same_byte : {N : Type 0} (field : N → Field) (f h : N → ℕ) (ns : List N) (k : ℕ) → Each (λ n. f n ≡ h n) ns
    → byte_of field f ns k ≡ byte_of field h ns k
unfolding byte_of
same_byte field f h [] k es = refl
same_byte field f h (n ∷ ns) k (e, es) = rw (e, same_byte field f h ns k es)

eqb_add : (base a b : ℕ) → eqb (base + a) (base + b) ≡ eqb a b
eqb_add base a b = at (eqb a b) refl
  where
    at : (t : Bool) → eqb a b ≡ t → eqb (base + a) (base + b) ≡ t
    at true q = eq-eqb (base + a) (base + b) (ap (λ (x : ℕ). base + x) (eqb-true a b q))
    at false q = ne_eqb (base + a) (base + b) (λ e. eqb-false a b q (omega arith))

-- fields under other names, some bytes later, give the same bytes there
module _ {M N : Type 0} (field_m : M → Field) (field : N → Field) (g : N → ℕ) (f : M → N) (base : ℕ)
    (moved : (m : M) → field (f m) ≡ later base (field_m m)) where
  later_byte : (ms : List M) (k : ℕ) → byte_of field g (map f ms) (base + k) ≡ byte_of field_m (λ m. g (f m)) ms k
  unfolding byte_of placed later
  later_byte [] k = refl
  later_byte (m ∷ ms) k = rw (moved m, eqb_add base (field_m m).byte k, later_byte ms k)

  pub bytes_later : (ms : List M) (count k : ℕ)
      → bytes_of field g (map f ms) (base + k) count ≡ bytes_of field_m (λ m. g (f m)) ms k count
  unfolding bytes_of
  bytes_later ms zero k = refl
  bytes_later ms (suc count) k =
      ap₂ ◌∷◌ (later_byte ms k)
      (ap (λ (x : ℕ). bytes_of field g (map f ms) x count) (sym (add-suc base k)) ∙ bytes_later ms count (suc k))

-- h lies above f, if both lie in one byte
unfoldable pub above : Field → Field → Bool
above f h = cond (eqb h.byte f.byte) (leb (f.width + f.bit) h.bit) true

-- in each byte, each field lies above those before it
unfoldable pub stacked : {N : Type 0} → (N → Field) → List N → Bool
stacked field [] = true
stacked field (n ∷ ns) = every (λ m. above (field n) (field m)) ns && stacked field ns

-- x is a multiple of t
abbrev Multiple : ℕ → ℕ → Type 0
Multiple t x = (q : ℕ) × (x ≡ q * t)

-- a number placed from bit b on, under a multiple of the bits from b + w on: its bits are read back, and the
-- multiple's from d bits above
module _ (w b q : ℕ) where
  own_bits : (x : ℕ) → (x % 2 ^ w * 2 ^ b + q * 2 ^ (w + b)) / 2 ^ b % 2 ^ w ≡ x % 2 ^ w
  own_bits x =
      let e : x % 2 ^ w * 2 ^ b + q * 2 ^ (w + b) ≡ (x % 2 ^ w + q * 2 ^ w) * 2 ^ b =
      rw (pow-add 2 w b, ← mul_assoc q (2 ^ w) (2 ^ b), add-mul (x % 2 ^ w) (q * 2 ^ w) (2 ^ b)) in
      rw (e, mul-div_cancel (x % 2 ^ w + q * 2 ^ w) (pow_pos b), add-mul-mod_self_right (x % 2 ^ w) q (2 ^ w))
      (mod-mod x (2 ^ w))

  higher_bits : (x d : ℕ)
      → (x % 2 ^ w * 2 ^ b + q * 2 ^ (w + b)) / 2 ^ (w + b + d) ≡ (q * 2 ^ (w + b)) / 2 ^ (w + b + d)
  higher_bits x d =
      let lo : x % 2 ^ w * 2 ^ b < 2 ^ (w + b) = shl_lt w b (mod-lt x (pow_pos w)) in
      sym (shr-shr (x % 2 ^ w * 2 ^ b + q * 2 ^ (w + b)) (w + b) d)
      ∙ ap (λ (y : ℕ). y / 2 ^ d)
      (ap (λ (y : ℕ). y / 2 ^ (w + b)) (add_comm (x % 2 ^ w * 2 ^ b) (q * 2 ^ (w + b))) ∙ high q (w + b) lo
      ∙ sym (mul-div_cancel q (pow_pos (w + b))))
      ∙ shr-shr (q * 2 ^ (w + b)) (w + b) d

  -- the same for any bit above the top
  skip : (x rest bit : ℕ) → w + b ≤ bit → rest ≡ q * 2 ^ (w + b) → (x % 2 ^ w * 2 ^ b + rest) / 2 ^ bit ≡ rest / 2 ^ bit
  skip x rest bit h e =
      let k : bit ≡ w + b + (bit - (w + b)) = omega arith in
      rw e (ap (λ (y : ℕ). (x % 2 ^ w * 2 ^ b + q * 2 ^ (w + b)) / 2 ^ y) k ∙ higher_bits x (bit - (w + b))
      ∙ ap (λ (y : ℕ). q * 2 ^ (w + b) / 2 ^ y) (sym k))

-- a number placed from bit on keeps a multiple of the bits from top on, if bit lies above
stack : (x top bit rest : ℕ) → top ≤ bit → Multiple (2 ^ top) rest → Multiple (2 ^ top) (x * 2 ^ bit + rest)
stack x top bit rest h (q, e) =
    let k : bit ≡ bit - top + top = omega arith in (
      x * 2 ^ (bit - top) + q,
      ap₂ (λ (y z : ℕ). x * 2 ^ y + z) k e
          ∙ rw (
            pow-add 2 (bit - top) top,
            add-mul (x * 2 ^ (bit - top)) q (2 ^ top),
            mul_assoc x (2 ^ (bit - top))
                (2 ^ top),
          ),
    )

module _ {N : Type 0} (field : N → Field) (g : N → ℕ) where
  -- the fields above f in its byte sum up to a multiple of the bits from f's top on
  multiple : (f : Field) (ns : List N) → every (λ n. above f (field n)) ns ≡ true
      → Multiple (2 ^ (f.width + f.bit)) (byte_of field g ns f.byte)
  unfolding every above byte_of placed
  multiple f [] e = (0, sym (zero-mul (2 ^ (f.width + f.bit))))
  multiple f (n ∷ ns) e =
      let p = (and-eq-true_iff (above f (field n)) (every (λ m. above f (field m)) ns)).0 e in
      at (eqb (field n).byte f.byte) p.0 (multiple f ns p.1)
    where
      at : (b : Bool) → cond b (leb (f.width + f.bit) (field n).bit) true ≡ true
          → Multiple (2 ^ (f.width + f.bit)) (byte_of field g ns f.byte)
          → Multiple (2 ^ (f.width + f.bit))
          (cond b (placed (field n) (g n) + byte_of field g ns f.byte) (byte_of field g ns f.byte))
      at true h m =
          stack (g n % 2 ^ (field n).width) (f.width + f.bit) (field n).bit (byte_of field g ns f.byte)
          (leb-true (f.width + f.bit) (field n).bit h) m
      at false h m = m

  -- what is read back of a field from the bytes of ns
  abbrev pub Back : List N → N → Type 0
  Back ns n = byte_of field g ns (field n).byte / 2 ^ (field n).bit % 2 ^ (field n).width ≡ g n % 2 ^ (field n).width

  module _ (n : N) (ns : List N)
      (m : Multiple (2 ^ ((field n).width + (field n).bit)) (byte_of field g ns (field n).byte)) where
    first_back : Back (n ∷ ns) n
    unfolding byte_of placed
    first_back =
        rw (eq-eqb (field n).byte (field n).byte refl, m.1) (own_bits (field n).width (field n).bit m.0 (g n))

    other_back : (o : N) → above (field n) (field o) ≡ true → Back ns o → Back (n ∷ ns) o
    unfolding byte_of placed above
    other_back o a r = at (eqb (field n).byte (field o).byte) refl
      where
        at : (b : Bool) → eqb (field n).byte (field o).byte ≡ b
            → cond b (placed (field n) (g n) + byte_of field g ns (field o).byte)
            (byte_of field g ns (field o).byte) / 2 ^ (field o).bit % 2 ^ (field o).width
            ≡ g o % 2 ^ (field o).width
        at true e =
            let q : (field n).byte ≡ (field o).byte = eqb-true (field n).byte (field o).byte e in
            let a' : leb ((field n).width + (field n).bit) (field o).bit ≡ true =
            rw (eq-eqb (field o).byte (field n).byte (sym q)) at a in
            let h : (field n).width + (field n).bit ≤ (field o).bit =
            leb-true ((field n).width + (field n).bit) (field o).bit a' in
            let s : byte_of field g ns (field o).byte ≡ m.0 * 2 ^ ((field n).width + (field n).bit) =
            ap (byte_of field g ns) (sym q) ∙ m.1 in
            ap (λ (y : ℕ). y % 2 ^ (field o).width)
            (skip (field n).width (field n).bit m.0 (g n) (byte_of field g ns (field o).byte) (field o).bit h s)
            ∙ r
        at false e = r

  -- each field of a stacked table is read back from its bytes, as many bits of its number as it is wide
  pub read_back : (ns : List N) → stacked field ns ≡ true → Each (Back ns) ns
  unfolding stacked
  read_back [] e = tt
  read_back (n ∷ ns) e =
      let p = (and-eq-true_iff (every (λ m. above (field n) (field m)) ns) (stacked field ns)).0 e in
      let m = multiple (field n) ns p.0 in (
        first_back n ns m,
        both_each (other_back n ns m) ns (each (λ m. above (field n) (field m)) ns p.0)
            (read_back ns p.1),
      )

-- What three runs of bytes leave that are put one behind the other, and a form's header byte by byte. Assumes nothing.
use mathlib.Core.Path.{◌≡◌, refl, ◌∙◌, ap, ap₂}
use mathlib.Core.List.{List, [], ◌∷◌, ◌++◌, map, append_assoc, append-nil}
use Prim.Native.Nat.{ℕ, ◌+◌, ◌≤◌}
use native.Mathlib.Omega.{arith}
use lib.ListN.{length, get_or, set, drop, length-append, length-drop, length-set, length-map, drop_of_length-le}
use lib.Seq.{paste}
use Rattle.dump.specs.declared.Row.{Row}
use Rattle.dump.specs.declared.Form.{Form}
use Rattle.dump_writer.specs.Written.{header_of}
use Rattle.lent_bytes.proofs.Blocks.{paste_behind}

-- a header's six bytes
pub header_bytes : (rows : List Row) (d : Row) (channel : ℕ) → length rows ≡ 6
    → (get_or rows 0 d).from ∷ (get_or rows 1 d).from ∷ channel ∷ (get_or rows 3 d).from ∷ (get_or rows 4 d).from
    ∷ (get_or rows 5 d).from ∷ []
    ≡ set (map (λ (r : Row). r.from) rows) 2 channel
header_bytes [] d channel e = let z : ⊥ = omega arith in absurd z
header_bytes (a ∷ []) d channel e = let z : ⊥ = omega arith in absurd z
header_bytes (a ∷ b ∷ []) d channel e = let z : ⊥ = omega arith in absurd z
header_bytes (a ∷ b ∷ c ∷ []) d channel e = let z : ⊥ = omega arith in absurd z
header_bytes (a ∷ b ∷ c ∷ f ∷ []) d channel e = let z : ⊥ = omega arith in absurd z
header_bytes (a ∷ b ∷ c ∷ f ∷ g ∷ []) d channel e = let z : ⊥ = omega arith in absurd z
header_bytes (a ∷ b ∷ c ∷ f ∷ g ∷ h ∷ []) d channel e = refl
header_bytes (a ∷ b ∷ c ∷ f ∷ g ∷ h ∷ i ∷ rows) d channel e = let z : ⊥ = omega arith in absurd z

pub header_length : (form : Form) (channel : ℕ) → length form.header ≡ 6 → length (header_of form channel) ≡ 6
header_length form channel e =
    length-set (map (λ (r : Row). r.from) form.header) 2 channel
    ∙ length-map form.header (λ (r : Row). r.from) ∙ e

-- bytes h, s and t that fill a buffer
module _ (d h s t : List ℕ) (n : ℕ) where
  nothing_left : length d ≡ 6 + n + 2 → drop 2 (drop n (drop 6 d)) ≡ []
  nothing_left all =
      let left : length (drop n (drop 6 d)) ≤ 2 = rw (length-drop n (drop 6 d), length-drop 6 d, all) (omega arith) in
      drop_of_length-le (drop n (drop 6 d)) left

  pub three_put : (x y z : List ℕ) → x ≡ paste d 0 h (length h) → y ≡ paste x 6 s (length s)
      → z ≡ paste y (6 + n) t (length t) → length h ≡ 6 → length s ≡ n → length t ≡ 2 → length d ≡ 6 + n + 2
      → z ≡ h ++ (s ++ t)
  three_put x y z e f g six long two all =
      let x-is : x ≡ h ++ drop 6 d = e ∙ ap (paste d 0 h) six ∙ paste_behind [] d h 0 6 refl six in
      let y-is : y ≡ h ++ s ++ drop n (drop 6 d) =
      f ∙ ap₂ (λ (l : List ℕ) (k : ℕ). paste l 6 s k) x-is long ∙ paste_behind h (drop 6 d) s 6 n six long in
      let at : length (h ++ s) ≡ 6 + n = length-append h s ∙ ap₂ ◌+◌ six long in
      g ∙ ap₂ (λ (l : List ℕ) (k : ℕ). paste l (6 + n) t k) y-is two
      ∙ paste_behind (h ++ s) (drop n (drop 6 d)) t (6 + n) 2 at two
      ∙ ap (λ (l : List ℕ). h ++ s ++ t ++ l) (nothing_left all)
      ∙ append-nil (h ++ s ++ t)
      ∙ append_assoc h s t

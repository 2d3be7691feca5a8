-- What a lookup gives, from what its calls ensure, over plain variables. Assumes nothing.
use mathlib.Core.Path.{◌≡◌, sym, ◌∙◌}
use mathlib.Core.List.{List}
use Prim.Native.Nat.{ℕ, ◌+◌, ◌-◌, ◌≤◌, ◌<◌}
use native.Mathlib.Omega.{arith}
use borrow.Author.Tests.{lt-ltb, le-ltb}
use lib.ListN.{length, get_or}
use Rattle.std.proofs.lemmas.List.{get_or_past}
use lib.IntN.{ℤ}
use lib.Ieee.{Float, nan, binary32, to_unsigned, to_signed, of_int}
use Rattle.numbers.specs.F32.{◌⊕◌, ◌⊖◌, ◌⊗◌, as_float}
use Rattle.utils.specs.Interpolate.{line_at, last_of, interpolated, interpolated_wrap}

module _ (table : List Float) (place : Float) (i : ℕ) (ei : i ≡ to_unsigned 64 place) where
  pub at_last : length table ≤ i + 1 → last_of table ≡ line_at table place
  unfolding line_at
  at_last h = simp (sym ei, le-ltb (i + 1) (length table) h)

  pub no_entry : length table < 1 → nan ≡ line_at table place
  no_entry h = sym (get_or_past table (length table - 1) nan (omega arith)) ∙ at_last (omega arith)

  pub between : (w : Float) → w ≡ as_float i → i + 1 < length table
      → get_or table i nan ⊕ (get_or table (i + 1) nan ⊖ get_or table i nan) ⊗ (place ⊖ w) ≡ line_at table place
  unfolding line_at
  between w ew h = simp (ew, sym ei, lt-ltb (i + 1) (length table) h)

-- a call is handed the signed number m, which is n read back from its bits
pub wrapped : (table : List Float) (index size : Float) {w r : Float} {n m : ℤ} → n ≡ to_signed 31 index → m ≡ n
    → w ≡ of_int binary32 m
    → r ≡ interpolated table (index ⊖ w) size → r ≡ interpolated_wrap table index size
unfolding interpolated_wrap
wrapped table index size en em ew er = simp (er, ew, em, en)

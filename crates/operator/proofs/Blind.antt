-- What a rendered part does not depend on.
-- Assumes nothing.
use mathlib.Core.Path.{◌≡◌, refl, sym, ap}
use Prim.Native.Nat.{ℕ, suc}
use native.Mathlib.Nat.{suc_inj, suc-ne-zero}
use mathlib.Core.Bool.{Bool, false}
use mathlib.Core.List.{List, [], ◌∷◌}
use lib.ListN.{length}
use lib.Ieee.{Float}
use Rattle.operator.specs.Sample.{mixed}
use Rattle.operator.specs.Chain.{Source, Chain, heard, next, written}

module _ (pairs : List Float) (source : Source) where
  pub length_written : (add : Bool) (i : ℕ) (s : Chain) (out : List Float)
      → length (written pairs source add i s out) ≡ length out
  unfolding written
  length_written add i s [] = refl
  length_written add i s (there ∷ out) = ap suc (length_written add (suc i) (next pairs source i s) out)

  -- set ignores what stood there
  pub set_ignores : (i : ℕ) (s : Chain) (out other : List Float) → length out ≡ length other
      → written pairs source false i s out ≡ written pairs source false i s other
  unfolding written mixed
  set_ignores i s [] [] e = refl
  set_ignores i s [] (p ∷ other) e = absurd (suc-ne-zero _ (sym e))
  set_ignores i s (o ∷ out) [] e = absurd (suc-ne-zero _ e)
  set_ignores i s (o ∷ out) (p ∷ other) e =
      ap (λ (l : List Float). heard pairs source i s ∷ l)
      (set_ignores (suc i) (next pairs source i s) out other (suc_inj e))

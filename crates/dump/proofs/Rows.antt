-- The rows of a header, one after the other. Assumes nothing.
use mathlib.Core.Path.{◌≡◌, refl}
use mathlib.Core.List.{List, [], ◌∷◌}
use Prim.Native.Nat.{ℕ, suc, ◌+◌, ◌<◌, ◌≤◌}
use native.Mathlib.Omega.{arith}
use lib.ListN.{length, drop}
use lib.Seq.{drop-cons}
use Rattle.std.specs.List.{zip, list_all}
use Rattle.dump.specs.declared.Row.{Row}
use Rattle.dump.specs.Dump.{in_row, in_rows}

-- the pairs of a row and a byte, in which every byte lies within its row
pub rows_are : (rows : List Row) (dump : List ℕ) (k : ℕ) → k + length rows ≤ length dump
    → list_all (λ (p : Row × ℕ). in_row p.0 p.1) (zip rows (drop k dump)) ≡ in_rows rows dump k
unfolding in_rows
rows_are [] dump k l = refl
rows_are (r ∷ rs) dump k l =
    let rest = rows_are rs dump (suc k) (omega arith) in
    let some : k < length dump = omega arith in
    rw (drop-cons dump k 0 some, rest) refl

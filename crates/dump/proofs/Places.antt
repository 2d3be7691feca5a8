-- Where the parts of a form stand that has six bytes before its data. Assumes nothing.
use mathlib.Core.Path.{◌≡◌, sym}
use mathlib.Core.Bool.{Bool, true, false}
use mathlib.Core.List.{List}
use Prim.Native.Nat.{ℕ, ◌+◌, ◌-◌}
use native.Mathlib.Nat.{add-sub_cancel_left}
use native.Mathlib.Omega.{arith}
use lib.ListN.{length, get_or, take, drop}
use Rattle.std.specs.List.{zip, list_all}
use Rattle.dump.specs.declared.Row.{Row}
use Rattle.dump.specs.declared.Form.{Form}
use Rattle.dump.specs.Dump.{in_row, size_of, framed, data_of, sum_byte}
use Rattle.dump.proofs.Rows.{rows_are}

module _ (form : Form) (six : length form.header ≡ 6) where
  pub size_is : size_of form ≡ 6 + form.count + 2
  size_is = rw six

  module _ (dump : List ℕ) where
    pub data_is : data_of form dump ≡ take (6 + form.count - 6) (drop 6 dump)
    data_is = rw (six, add-sub_cancel_left)

    pub sum_byte_is : sum_byte form dump ≡ get_or dump (6 + form.count) 0
    sum_byte_is = rw six

    pub framed_is : length dump ≡ 6 + form.count + 2 → (b : Bool)
        → list_all (λ (p : Row × ℕ). in_row p.0 p.1) (zip form.header dump) ≡ true
        → b ≡ in_row form.last (get_or dump (6 + form.count + 1) 0) → b ≡ framed form dump
    framed_is l b e f = rw (six, sym (rows_are form.header dump 0 (omega arith)), e, f)

    pub unframed_is : length dump ≡ 6 + form.count + 2
        → list_all (λ (p : Row × ℕ). in_row p.0 p.1) (zip form.header dump) ≡ false → false ≡ framed form dump
    unframed_is l e = rw (sym (rows_are form.header dump 0 (omega arith)), e)

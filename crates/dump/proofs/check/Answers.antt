-- `dump::check` meets its contract. Each test leads to its refusal. Assumes nothing.
use mathlib.Core.Path.{◌≡◌, sym, ◌∙◌}
use mathlib.Core.List.{List}
use Prim.Native.Nat.{ℕ, ◌+◌, ◌-◌, ◌≤◌, ◌%◌}
use native.Mathlib.Omega.{arith}
use lib.ListN.{length, take, drop}
use Rattle.dump.specs.declared.Form.{Form}
use Rattle.dump.specs.Dump.{size_of, data_of, sum_byte, total, largest_of}
use Rattle.dump.proofs.Numbers.{is_short, is_unframed, is_high, is_unsummed, is_sound}
use Rattle.dump.proofs.Places.{size_is, data_is, sum_byte_is}
use Rattle.dump.proofs.Sums.{too_high, not_summed, is_summed}
use Rattle.dump.proofs.check.Goals as goal
use Rattle.dump.proofs.check.Goals.{then-dump-lt8-via-then-dump-lt8, then-dump-lt8-via-else-dump-lt8+then-dump-form}
use Rattle.dump.proofs.check.Goals.{then-c-gt127-via-then-c-gt127, then-c-gt127-via-else-c-gt127+then-t-c-ne0}

module _ (form : Form) (six : length form.header ≡ 6) (dump : List ℕ) where
  -- a dump that is as long as its form says
  long : length dump - 8 ≡ form.count → 8 ≤ length dump → length dump ≡ size_of form
  long e h = omega (arith, size_is form six)

  -- the tally of the bytes between the header and the checksum is that of the data
  sum_is : (sum : ℕ) → sum ≡ total (take (6 + form.count - 6) (drop 6 dump)) % 128
      → sum ≡ total (data_of form dump) % 128
  sum_is sum e = rw (data_is form six dump) e

  largest_is : (n : ℕ) → n ≡ largest_of (take (6 + form.count - 6) (drop 6 dump)) → n ≡ largest_of (data_of form dump)
  largest_is n e = rw (data_is form six dump) e

pub returns-then-dump-lt8 : goal.returns-then-dump-lt8
returns-then-dump-lt8 c =
    let size = size_is c.args.form (omega arith) in
    is_short c.args.form c.args.dump.now (λ e. elim c.then-dump-lt8.branch [
      | then-dump-lt8-via-then-dump-lt8 w ↦ omega (arith, size, e)
      | then-dump-lt8-via-else-dump-lt8+then-dump-form w ↦ w.if-dump-form.true (omega (arith, size, e))
    ])

pub returns-then-not-framed_right : goal.returns-then-not-framed_right
returns-then-not-framed_right c =
    is_unframed c.args.form c.args.dump.now
    (long c.args.form (omega arith) c.args.dump.now c.if-dump-form.false c.if-dump-lt8.false)
    (sym c.framed_right.ensures ∙ c.if-not-framed_right.true)

pub returns-then-has_high : goal.returns-then-has_high
returns-then-has_high c =
    let six : length c.args.form.header ≡ 6 = omega arith in
    let dump = c.args.dump.now in
    let largest = largest_is c.args.form six dump c.tally-t.result.largest c.tally-t.ensures.1 in
    is_high c.args.form dump (long c.args.form six dump c.if-dump-form.false c.if-dump-lt8.false)
    (sym c.framed_right.ensures ∙ c.if-not-framed_right.false) (omega (arith, largest))

pub returns-then-c-gt127 : goal.returns-then-c-gt127
returns-then-c-gt127 c =
    let six : length c.args.form.header ≡ 6 = omega arith in
    let dump = c.args.dump.now in
    let bytes = data_of c.args.form dump in
    let last = sum_byte c.args.form dump in
    let last-is = sum_byte_is c.args.form six dump in
    let largest = largest_is c.args.form six dump c.tally-t.result.largest c.tally-t.ensures.1 in
    is_unsummed c.args.form dump (long c.args.form six dump c.if-dump-form.false c.if-dump-lt8.false)
    (sym c.framed_right.ensures ∙ c.if-not-framed_right.false) (omega (arith, largest))
    (elim c.then-c-gt127.branch [
      | then-c-gt127-via-then-c-gt127 w ↦ too_high bytes last (omega (arith, last-is))
      | then-c-gt127-via-else-c-gt127+then-t-c-ne0 w ↦
          not_summed bytes last _ (sum_is c.args.form six dump c.tally-t.result.sum c.tally-t.ensures.0)
          (λ e. w.if-t-c-ne0.true (omega (arith, last-is, e)))
    ])

pub returns : goal.returns
returns c =
    let six : length c.args.form.header ≡ 6 = omega arith in
    let dump = c.args.dump.now in
    let largest = largest_is c.args.form six dump c.tally-t.result.largest c.tally-t.ensures.1 in
    is_sound c.args.form dump (long c.args.form six dump c.if-dump-form.false c.if-dump-lt8.false)
    (sym c.framed_right.ensures ∙ c.if-not-framed_right.false) (omega (arith, largest))
    (is_summed (data_of c.args.form dump) (sum_byte c.args.form dump) _
    (sum_is c.args.form six dump c.tally-t.result.sum c.tally-t.ensures.0)
    (omega (arith, sum_byte_is c.args.form six dump)) (omega (arith, sum_byte_is c.args.form six dump)))

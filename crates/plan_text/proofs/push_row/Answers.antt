-- `plan_text::push_row` meets its contract. Assumes nothing.
use native.Mathlib.Omega.{arith}
use Rattle.plan_text.specs.Text.{bytes_text}
use Rattle.plan_text.proofs.Pieces.{longer, row_so_far, row_more, row_done}
use Rattle.plan_text.proofs.push_row.Goals as goal

pub loop-byte-init : goal.loop-byte-init
unfolding bytes_text
loop-byte-init c = c.push_str.ensures.bytes

pub push_str-requires-in-loop-byte : goal.push_str-requires-in-loop-byte
push_str-requires-in-loop-byte c =
    let n = row_so_far c.args.text.now.bytes c.args.bytes.now c.loop-byte.byte-index (omega arith)
    c.loop-byte.invariant in
    (omega arith, omega arith)

pub push_hex_digit-requires : goal.push_hex_digit-requires
push_hex_digit-requires c =
    let n = row_so_far c.args.text.now.bytes c.args.bytes.now c.loop-byte.byte-index (omega arith)
    c.loop-byte.invariant in
    omega arith

pub push_hex_digit-requires-in-loop-byte : goal.push_hex_digit-requires-in-loop-byte
push_hex_digit-requires-in-loop-byte c =
    let n = row_so_far c.args.text.now.bytes c.args.bytes.now c.loop-byte.byte-index (omega arith)
    c.loop-byte.invariant in
    let m = longer c.push_str-in-loop-byte.new.self.bytes _ c.push_hex_digit.ensures in
    omega arith

pub loop-byte-preserved : goal.loop-byte-preserved
loop-byte-preserved c =
    row_more _ _ _ c.loop-byte-test.true c.loop-byte.invariant c.push_str-in-loop-byte.ensures.bytes
    c.push_hex_digit.ensures
    c.push_hex_digit-in-loop-byte.ensures

pub push_str-requires-2 : goal.push_str-requires-2
push_str-requires-2 c =
    let n = row_so_far c.args.text.now.bytes c.args.bytes.now c.loop-byte.byte-index (omega arith)
    c.loop-byte.invariant in
    (omega arith, omega arith)

pub returns : goal.returns
returns c = row_done _ _ c.loop-byte.byte-index c.loop-byte-test.false c.loop-byte.invariant c.push_str-2.ensures.bytes

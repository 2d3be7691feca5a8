-- `plan_text::push_call` meets its contract. Assumes nothing.
use mathlib.Core.Path.{◌≡◌}
use Prim.Native.Nat.{◌≤◌}
use mathlib.Core.List.{[], ◌∷◌}
use native.Mathlib.Omega.{arith}
use lib.ListN.{length}
use Rattle.plan_text.specs.Text.{digit, source_text, way_text, call_text}
use Rattle.plan_text.proofs.Pieces.{longer, four_pieces, source_size, way_size}
use Rattle.plan_text.proofs.push_call.Goals as goal

pub push_str-requires : goal.push_str-requires
push_str-requires c =
    let n = longer c.args.text.now.bytes _ c.push_numbers.ensures in
    let m : length c.source.result.now ≤ 9 = rw c.source.ensures (source_size c.args.c.now.input) in
    (omega arith, omega arith)

pub push_numbers-requires-2 : goal.push_numbers-requires-2
push_numbers-requires-2 c =
    let n = longer c.args.text.now.bytes _ c.push_numbers.ensures in
    let m : length c.source.result.now ≤ 9 = rw c.source.ensures (source_size c.args.c.now.input) in
    omega arith

pub push_str-requires-2 : goal.push_str-requires-2
push_str-requires-2 c =
    let n = longer c.args.text.now.bytes _ c.push_numbers.ensures in
    let m : length c.source.result.now ≤ 9 = rw c.source.ensures (source_size c.args.c.now.input) in
    let o = longer c.push_str.new.self.bytes _ c.push_numbers-2.ensures in
    let w : length c.way.result.now ≡ 4 = rw c.way.ensures (way_size c.args.c.now.add) in
    (omega arith, omega arith)

pub returns : goal.returns
unfolding call_text
returns c =
    let d = c.args.c.now in
    four_pieces c.args.text.now.bytes (digit d.first ∷ 32 ∷ digit d.n ∷ 32 ∷ []) (source_text d.input)
    (digit d.input ∷ 32 ∷ digit d.output ∷ 32 ∷ []) (way_text d.add)
    c.push_numbers.ensures (rw c.source.ensures at c.push_str.ensures.bytes) c.push_numbers-2.ensures
    (rw c.way.ensures at c.push_str-2.ensures.bytes)

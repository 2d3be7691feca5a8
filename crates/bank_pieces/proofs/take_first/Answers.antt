-- `bank_pieces::take_first` meets its contract. Assumes nothing.
use mathlib.Core.Path.{sym, ◌∙◌, ap}
use mathlib.Core.List.{List}
use Prim.Native.Nat.{ℕ, ◌-◌}
use native.Mathlib.Omega.{arith}
use lib.ListN.{length, take, drop, length-drop}
use lib.Seq.{length-take-le, take_all}
use Rattle.bank_pieces.specs.declared.Receiver.{Receiver}
use Rattle.std.specs.Prelude.{None}
use Rattle.bank_pieces.specs.Pieces.{Held, Took, passed_all, took}
use Rattle.bank_pieces.proofs.Calls.{answered, onward, took_frame, took_on, taken_least, passed_count}
use Rattle.bank_pieces.proofs.take_first.Goals as goal

pub slice_bounds-pass_all-end : goal.slice_bounds-pass_all-end
slice_bounds-pass_all-end c = sym (length-take-le _ _ (omega arith))

pub returns-then-n-piece : goal.returns-then-n-piece
returns-then-n-piece c =
    let piece = c.args.piece.now in
    let patch = c.args.patch.now in
    let n = c.min-n.result in
    let all = take_all n piece (omega arith) in
    let held : Held = record { receiver = c.pass_all-q.result; patch = patch } in
    ap (λ (k : ℕ). answered held k None) c.if-n-piece.true
    ∙ took_frame c.args.r piece patch (omega arith) c.pass_all-q.result
    (c.pass_all-q.ensures ∙ ap (passed_all c.args.r) all)

pub take_data-t-requires : goal.take_data-t-requires
take_data-t-requires c =
    let n = c.min-n.result in
    let l = length-take-le n c.args.piece.now (omega arith) in
    let e = ap (λ (q : Receiver). q.count) c.pass_all-q.ensures in
    let k = passed_count c.args.r (take n c.args.piece.now) (omega arith) in
    (omega (arith, e, k, l), omega (arith, e, k, l))

pub overflow_add-result : goal.overflow_add-result
overflow_add-result c =
    let n = c.min-n.result in
    let piece = c.args.piece.now in
    let patch = c.args.patch.now in
    let l = length-drop n piece in
    let rest = take_all (length piece - n) (drop n piece) (omega (arith, l)) in
    let e =
    ap (λ (t : Took). t.taken.taken)
    (c.take_data-t.ensures ∙ ap (λ (s : List ℕ). took c.pass_all-q.result s patch) rest) in
    let m = taken_least c.pass_all-q.result (drop n piece) patch in
    omega (arith, e, m, l)

pub returns : goal.returns
returns c =
    let piece = c.args.piece.now in
    let patch = c.args.patch.now in
    let n = c.min-n.result in
    let l = length-take-le n piece (omega arith) in
    let e = ap (λ (q : Receiver). q.count) c.pass_all-q.ensures in
    let k = passed_count c.args.r (take n piece) (omega arith) in
    let rest = take_all (length piece - n) (drop n piece) (omega (arith, length-drop n piece)) in
    ap (onward n)
    (c.take_data-t.ensures ∙ ap (λ (s : List ℕ). took c.pass_all-q.result s patch) rest)
    ∙ took_on c.args.r c.pass_all-q.result piece patch n (omega arith) (omega (arith, e, k, l))
    (omega arith) c.pass_all-q.ensures

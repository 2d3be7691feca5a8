-- `bank_pieces::take_data` meets its contract. Assumes nothing.
use mathlib.Core.Path.{◌≡◌, refl, sym, ◌∙◌, ap}
use Prim.Native.Nat.{ℕ, ◌-◌}
use native.Mathlib.Omega.{arith}
use lib.ListN.{length, take}
use lib.Seq.{paste, length-take-le}
use Rattle.bank_pieces.specs.Pieces.{place_in, summed_with}
use Rattle.bank_pieces.proofs.Calls.{paste_part, whole_is, took_some, took_whole}
use Rattle.bank_pieces.proofs.take_data.Goals as goal
use Rattle.bank_pieces.proofs.take_data.Goals.{then-filled-eq0, else-filled-eq0}

pub returns-then-piece-room : goal.returns-then-piece-room
returns-then-piece-room c =
    let patch = c.args.patch.now in
    let wide : length patch ≡ 128 = omega arith in
    took_some c.args.r c.args.piece.now patch wide c.requires.0 c.requires.1 _ c.put.new.out c.if-piece-room.true refl
    c.put.ensures

pub slice_bounds-put-end-3 : goal.slice_bounds-put-end-3
slice_bounds-put-end-3 c = sym (length-take-le _ _ (omega arith))

pub put-requires-2 : goal.put-requires-2
put-requires-2 c =
    let n = length-take-le (128 - place_in c.args.r.count) c.args.piece.now (omega arith) in
    omega (arith, n)

pub returns : goal.returns
returns c =
    let r = c.args.r in
    let piece = c.args.piece.now in
    let patch = c.args.patch.now in
    let wide : length patch ≡ 128 = omega arith in
    let pasted = c.put-2.ensures ∙ paste_part patch (place_in r.count) piece (128 - place_in r.count) (omega arith) in
    took_whole r piece patch wide c.requires.0 c.requires.1 (128 - place_in r.count)
    _ c.put-2.new.out refl (omega arith) pasted
    (elim c.if-filled-eq0.branch [
      | then-filled-eq0 w ↦
          let none = w.if-filled-eq0.true in
          w.sum-is ∙ w.summed_with-sum.ensures
          ∙ ap (summed_with r.sum) (ap (λ (k : ℕ). take (128 - k) piece) none ∙ whole_is patch piece wide
          ∙ sym (pasted ∙ ap (λ (k : ℕ). paste patch k piece (128 - k)) none))
      | else-filled-eq0 w ↦ w.sum-is ∙ w.summed_with-sum-else-filled-eq0.ensures
    ])

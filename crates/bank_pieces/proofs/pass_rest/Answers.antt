-- `bank_pieces::pass_rest` meets its contract. Assumes nothing.
use mathlib.Core.Path.{sym}
use native.Mathlib.Omega.{arith}
use lib.Seq.{length-take-le}
use Rattle.bank_pieces.proofs.Calls.{passed_rest}
use Rattle.bank_pieces.proofs.pass_rest.Goals as goal

pub slice_bounds-pass_all-end : goal.slice_bounds-pass_all-end
slice_bounds-pass_all-end c = sym (length-take-le _ _ (omega arith))

pub returns : goal.returns
returns c =
    passed_rest c.args.r c.args.piece.now c.min-n.result
    c.pass_all-q.result _ c.requires (omega arith)
    (omega (arith, c.min-n.ensures, c.saturating_sub.ensures)) c.pass_all-q.ensures
    (omega arith)

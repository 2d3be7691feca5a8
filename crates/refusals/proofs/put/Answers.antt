-- `refusals::put` meets its contract. Assumes nothing.
use mathlib.Core.Path.{refl}
use native.Mathlib.Omega.{arith}
use Rattle.refusals.proofs.Pieces.{put_piece}
use Rattle.refusals.proofs.put.Goals as goal

pub returns : goal.returns
returns c = record {
  place = refl;
  buffer = rw c.copy_from_slice.ensures.after (put_piece c.args.out.now c.args.piece.now c.args.at (omega arith));
}

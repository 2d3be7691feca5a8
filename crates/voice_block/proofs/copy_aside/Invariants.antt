-- `voice_block::copy_aside` meets its contract: the first i samples are those of the quarter. Assumes nothing.
use Rattle.std.proofs.Common.{◌≡◌, take}
use Rattle.voice_block.proofs.copy_aside.Given as goal

abbrev pub invariant-loop-i : goal.invariant-loop-i
invariant-loop-i l = take l.i l.aside ≡ take l.i l.quarter

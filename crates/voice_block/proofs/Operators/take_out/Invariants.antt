-- `voice_block::Operators::take_out` meets its contract. Assumes nothing.
use Rattle.std.proofs.Common.{◌≡◌, take, length}
use Rattle.voice_block.specs.Calls.{lanes_at, setting_of}
use Rattle.voice_block.proofs.Operators.take_out.Given as goal

abbrev pub invariant-loop-k : goal.invariant-loop-k
invariant-loop-k g l =
    (take l.k l.lane-items ≡ lanes_at (setting_of l.lent) l.self.operator l.first l.k)
    × (length l.lane-items ≡ length l.initial.lane-items)

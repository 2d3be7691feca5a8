-- `voice_block::Operators::put_back` meets its contract. Assumes nothing.
use Rattle.std.proofs.Common.{◌≡◌, ◌+◌, drop}
use Rattle.voice_block.specs.Calls.{put_all}
use Rattle.voice_block.proofs.Operators.put_back.Given as goal

abbrev pub invariant-loop-k : goal.invariant-loop-k
invariant-loop-k g l =
    put_all l.self (l.first + l.k) (drop l.k l.lane-items) ≡ put_all l.initial.self l.first l.lane-items

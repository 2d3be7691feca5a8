-- `identity::play_blocks` meets its contract. Assumes nothing.
use Rattle.std.proofs.Common.{◌≡◌, ◌-◌}
use Rattle.identity.specs.Identity.{blocks_played}
use Rattle.identity.proofs.play_blocks.Given as goal

-- the blocks that are left give what all would
abbrev pub invariant-loop : goal.invariant-loop
invariant-loop l =
    blocks_played l.tables l.note l.gate (l.n - l.counter) l.now
    ≡ blocks_played l.tables l.note l.gate l.n l.initial.now

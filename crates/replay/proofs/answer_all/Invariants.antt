-- `replay::answer_all` meets its contract: what was taken and what was put lie within their buffers, and what is left
-- of the script grows shorter.
use Rattle.std.proofs.Common.{length, ◌-◌, ◌≤◌, ◌≡◌}
use Rattle.replay.proofs.answer_all.Given as goal

abbrev pub invariant-loop-at : goal.invariant-loop-at
invariant-loop-at l =
    (l.at ≤ length l.script) × (l.put ≤ length l.answers) × (length l.answers ≡ length l.initial.answers)

abbrev pub decreases-loop-at : goal.decreases-loop-at
decreases-loop-at l = length l.script - l.at

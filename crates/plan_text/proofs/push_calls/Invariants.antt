-- `plan_text::push_calls` meets its contract. The loop's invariant: the calls so far are written. Assumes nothing.
use mathlib.Core.Path.{◌≡◌}
use mathlib.Core.List.{◌++◌}
use lib.ListN.{take}
use Rattle.plan_text.specs.Text.{calls_text}
use Rattle.plan_text.proofs.push_calls.Given as goal

abbrev pub invariant-loop-call : goal.invariant-loop-call
invariant-loop-call l = l.text.bytes ≡ l.initial.text.bytes ++ calls_text (take l.call-index l.calls)

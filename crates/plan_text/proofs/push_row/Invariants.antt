-- `plan_text::push_row` meets its contract. The loop's invariant: the bytes so far are written. Assumes nothing.
use mathlib.Core.Path.{◌≡◌}
use mathlib.Core.List.{◌++◌}
use lib.ListN.{take}
use Rattle.plan_text.specs.Text.{word_row, bytes_text}
use Rattle.plan_text.proofs.push_row.Given as goal

abbrev pub invariant-loop-byte : goal.invariant-loop-byte
invariant-loop-byte l = l.text.bytes ≡ l.fn.text.bytes ++ (word_row ++ bytes_text (take l.byte-index l.bytes))

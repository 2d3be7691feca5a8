-- `voice::take_patch` meets its contract. Assumes nothing.
use native.Mathlib.Omega.{arith}
use Rattle.std.proofs.lemmas.Grind.{common_steps}
use Rattle.algorithms.specs.Table.{six}
use Rattle.voice.specs.Voice.{without_patch}
use Rattle.voice.specs.Answers.{accepted, take_patch_answer}
use Rattle.voice.proofs.take_patch.Goals as goal

pub returns-in_err-w : goal.returns-in_err-w
unfolding accepted take_patch_answer
returns-in_err-w c = grind (arith, common_steps)

pub returns : goal.returns
unfolding accepted take_patch_answer without_patch six
returns c = grind (arith, common_steps)

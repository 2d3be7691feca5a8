-- `voice_block::start` meets its contract.
-- Assumes nothing.
use mathlib.Core.Path.{refl}
use native.Mathlib.Omega.{arith}
use Rattle.voice_block.proofs.Quarters.{within}
use Rattle.voice_block.proofs.start.Goals as goal

pub overflow_mul-result : goal.overflow_mul-result
overflow_mul-result c = omega (arith, within c.args.quarter 4 c.args.samples c.requires.0)

pub returns : goal.returns
returns c = (refl, within c.args.quarter 4 c.args.samples c.requires.0)

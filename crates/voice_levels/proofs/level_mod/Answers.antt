-- `voice_levels::level_mod` meets its contract. Assumes nothing.
use lib.Ieee.{neg, of_bits}
use Rattle.numbers.specs.F32.{decimal, minus_decimal}
use Rattle.voice_levels.proofs.Rest.{level_mod_at_rest}
use Rattle.voice_levels.proofs.level_mod.Goals as goal

pub returns-then-log_level_mod : goal.returns-then-log_level_mod
unfolding decimal minus_decimal of_bits neg
returns-then-log_level_mod c = level_mod_at_rest c.args.log_level_mod c.if-log_level_mod.true

pub returns : goal.returns
unfolding decimal of_bits
returns c = simp c.pow_2_fast.ensures

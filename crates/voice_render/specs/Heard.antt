-- What is heard of a block: demand 3's words. Definitions only.
use Rattle.std.specs.Prelude.{◌/◌, cond, List, [], length, take, Float}
use Rattle.voice_render.specs.Answers.{block_fits, Answered}

-- the output of a block: its first quarter; a slice of a length that 8 names has no quarters
unfoldable pub output : List Float → List Float
output block = cond (block_fits (length block)) (take (length block / 4) block) []

-- a block's answer without the scratch
abbrev pub heard_of : Answered → Answered
heard_of a = record { answer = a.answer; block = output a.block }

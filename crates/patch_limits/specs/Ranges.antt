-- Ranges of numbers that entries accept. Definitions only, all to be believed.
use Rattle.std.specs.Prelude.{Bool, ◌&&◌, Float}
use Rattle.std.specs.Float.Ieee.{le}
use Rattle.numbers.specs.F32.{decimal}

-- from low to high, ends allowed; no NaN
abbrev pub between : Float → Float → Float → Bool
between low high x = le low x && le x high

-- a sample rate that an LFO or a voice can be started with (else 5)
unfoldable pub sample_rate_fits : Float → Bool
sample_rate_fits rate = between (decimal 8000 0) (decimal 192000 0) rate

-- a note (else 7)
abbrev pub note_fits : Float → Bool
note_fits note = between (decimal 0 0) (decimal 127 0) note

-- a velocity, a brightness, an envelope control or an amplitude modulation (else 7)
abbrev pub unit_fits : Float → Bool
unit_fits x = between (decimal 0 0) (decimal 1 0) x

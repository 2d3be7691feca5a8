-- The tables of dx_units.rs, number for number, and the chart of levels. Definitions only.
use Rattle.std.specs.Prelude.{List, [], ◌∷◌, ℕ, Float}
use Rattle.numbers.specs.F32.{decimal, minus_decimal}

-- the semitones of each coarse number's ratio: a half for 0, the number itself for the others
unfoldable pub lut_coarse : List Float
unfolding decimal minus_decimal
lut_coarse =
    minus_decimal 12000000 6 ∷
    decimal 0 6 ∷
    decimal 12000000 6 ∷
    decimal 19019550 6 ∷
    decimal 24000000 6 ∷
    decimal 27863137 6 ∷
    decimal 31019550 6 ∷
    decimal 33688259 6 ∷
    decimal 36000000 6 ∷
    decimal 38039100 6 ∷
    decimal 39863137 6 ∷
    decimal 41513180 6 ∷
    decimal 43019550 6 ∷
    decimal 44405276 6 ∷
    decimal 45688259 6 ∷
    decimal 46882687 6 ∷
    decimal 48000000 6 ∷
    decimal 49049554 6 ∷
    decimal 50039100 6 ∷
    decimal 50975130 6 ∷
    decimal 51863137 6 ∷
    decimal 52707809 6 ∷
    decimal 53513180 6 ∷
    decimal 54282743 6 ∷
    decimal 55019550 6 ∷
    decimal 55726274 6 ∷
    decimal 56405276 6 ∷
    decimal 57058650 6 ∷
    decimal 57688259 6 ∷
    decimal 58295772 6 ∷
    decimal 58882687 6 ∷
    decimal 59450356 6 ∷
    []

-- the share of the amplitude modulation for each sensitivity, none to all
unfoldable pub lut_amp_mod_sensitivity : List Float
unfolding decimal
lut_amp_mod_sensitivity =
    decimal 0 1 ∷
    decimal 2588 4 ∷
    decimal 4274 4 ∷
    decimal 10 1 ∷
    []

-- the octaves of the pitch modulation for each sensitivity
unfoldable pub lut_pitch_mod_sensitivity : List Float
unfolding decimal
lut_pitch_mod_sensitivity =
    decimal 0 1 ∷
    decimal 781250 7 ∷
    decimal 1562500 7 ∷
    decimal 2578125 7 ∷
    decimal 4296875 7 ∷
    decimal 7187500 7 ∷
    decimal 11953125 7 ∷
    decimal 20 1 ∷
    []

-- the cube root of each 16th part of 1, ends included
unfoldable pub lut_cube_root : List Float
unfolding decimal
lut_cube_root =
    decimal 0 1 ∷
    decimal 39685062976 11 ∷
    decimal 50000000000 11 ∷
    decimal 57235744065 11 ∷
    decimal 62996081605 11 ∷
    decimal 67860466725 11 ∷
    decimal 72112502092 11 ∷
    decimal 75914745216 11 ∷
    decimal 79370070937 11 ∷
    decimal 82548197054 11 ∷
    decimal 85498810729 11 ∷
    decimal 88258719406 11 ∷
    decimal 90856038354 11 ∷
    decimal 93312785379 11 ∷
    decimal 95646563396 11 ∷
    decimal 97871693135 11 ∷
    decimal 10 1 ∷
    []

-- the printed chart: the steps of each level from 0 to 99, ten in a row
unfoldable pub level_chart : List ℕ
level_chart =
    0 ∷ 4 ∷ 8 ∷ 12 ∷ 16 ∷ 19 ∷ 22 ∷ 25 ∷ 28 ∷ 30 ∷
    32 ∷ 34 ∷ 36 ∷ 37 ∷ 38 ∷ 42 ∷ 43 ∷ 44 ∷ 45 ∷ 46 ∷
    48 ∷ 49 ∷ 50 ∷ 51 ∷ 52 ∷ 53 ∷ 54 ∷ 55 ∷ 56 ∷ 57 ∷
    58 ∷ 59 ∷ 60 ∷ 61 ∷ 62 ∷ 63 ∷ 64 ∷ 65 ∷ 66 ∷ 67 ∷
    68 ∷ 69 ∷ 70 ∷ 71 ∷ 72 ∷ 73 ∷ 74 ∷ 75 ∷ 76 ∷ 77 ∷
    78 ∷ 79 ∷ 80 ∷ 81 ∷ 82 ∷ 83 ∷ 84 ∷ 85 ∷ 86 ∷ 87 ∷
    88 ∷ 89 ∷ 90 ∷ 91 ∷ 92 ∷ 93 ∷ 94 ∷ 95 ∷ 96 ∷ 97 ∷
    98 ∷ 99 ∷ 100 ∷ 101 ∷ 102 ∷ 103 ∷ 104 ∷ 105 ∷ 106 ∷ 107 ∷
    108 ∷ 109 ∷ 110 ∷ 111 ∷ 112 ∷ 113 ∷ 114 ∷ 115 ∷ 116 ∷ 117 ∷
    118 ∷ 119 ∷ 120 ∷ 121 ∷ 122 ∷ 123 ∷ 124 ∷ 125 ∷ 126 ∷ 127 ∷
    []

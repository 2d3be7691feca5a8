-- A patch's 155 fields: their names and limits, one table that every form of a patch shares; then where each stands in
-- Yamaha's packed form; and layout order. To be believed: what unpacking, packing and the limits mean is derived from
-- these, in Packed.
use Rattle.std.specs.Prelude.{List, [], ◌∷◌, ◌++◌, map, ℕ, ◌+◌, ◌*◌}

-- a field's byte, its lowest bit there, its width in bits, and its largest number
pub record Field : Type 0 where
  pub byte : ℕ
  pub bit : ℕ
  pub width : ℕ
  pub largest : ℕ

abbrev row : ℕ → ℕ → ℕ → ℕ → Field
row byte bit width largest = record { byte = byte; bit = bit; width = width; largest = largest }

-- the same field, some bytes later
unfoldable pub later : ℕ → Field → Field
later base f = row (base + f.byte) f.bit f.width f.largest

-- The names of the fields, by the structs that hold them. A rate or a level has its stage, 0 to 3, a letter its place,
-- 0 to 9.
pub data EnvelopeName : Type 0 where
  Rate : ℕ → EnvelopeName
  Level : ℕ → EnvelopeName

pub data ScalingName : Type 0 where
  BreakPoint : ScalingName
  LeftDepth : ScalingName
  RightDepth : ScalingName
  LeftCurve : ScalingName
  RightCurve : ScalingName

pub data OperatorName : Type 0 where
  Stage : EnvelopeName → OperatorName
  Scaling : ScalingName → OperatorName
  RateScaling : OperatorName
  Detune : OperatorName
  AmplitudeSensitivity : OperatorName
  VelocitySensitivity : OperatorName
  OutputLevel : OperatorName
  Mode : OperatorName
  Coarse : OperatorName
  Fine : OperatorName

pub data LfoName : Type 0 where
  LfoRate : LfoName
  LfoDelay : LfoName
  PitchDepth : LfoName
  AmplitudeDepth : LfoName
  LfoReset : LfoName
  Waveform : LfoName
  PitchSensitivity : LfoName

-- a field of a patch: of operator k, 0 to 5, or one that the operators share
pub data Place : Type 0 where
  Of : ℕ → OperatorName → Place
  Pitch : EnvelopeName → Place
  Algorithm : Place
  Feedback : Place
  Reset : Place
  Lfo : LfoName → Place
  Transpose : Place
  Letter : ℕ → Place

-- THE TABLE. Each field's limit, its largest number. A form of a patch adds only where a field stands.
abbrev pub envelope_limit : EnvelopeName → ℕ
envelope_limit (Rate i) = 99
envelope_limit (Level i) = 99

abbrev pub scaling_limit : ScalingName → ℕ
scaling_limit BreakPoint = 99
scaling_limit LeftDepth = 99
scaling_limit RightDepth = 99
scaling_limit LeftCurve = 3
scaling_limit RightCurve = 3

abbrev pub operator_limit : OperatorName → ℕ
operator_limit (Stage n) = envelope_limit n
operator_limit (Scaling n) = scaling_limit n
operator_limit RateScaling = 7
operator_limit Detune = 14
operator_limit AmplitudeSensitivity = 3
operator_limit VelocitySensitivity = 7
operator_limit OutputLevel = 99
operator_limit Mode = 1
operator_limit Coarse = 31
operator_limit Fine = 99

-- the largest pitch sensitivity: in a patch, and where the LFO is set or the sensitivity converted
abbrev pub patch_sensitivity : ℕ
patch_sensitivity = 15

abbrev pub lfo_sensitivity : ℕ
lfo_sensitivity = 7

-- the LFO, for a largest pitch sensitivity
abbrev pub lfo_limit : ℕ → LfoName → ℕ
lfo_limit sensitivity LfoRate = 99
lfo_limit sensitivity LfoDelay = 99
lfo_limit sensitivity PitchDepth = 99
lfo_limit sensitivity AmplitudeDepth = 99
lfo_limit sensitivity LfoReset = 1
lfo_limit sensitivity Waveform = 5
lfo_limit sensitivity PitchSensitivity = sensitivity

abbrev pub limit_of : Place → ℕ
limit_of (Of k n) = operator_limit n
limit_of (Pitch n) = envelope_limit n
limit_of Algorithm = 31
limit_of Feedback = 7
limit_of Reset = 1
limit_of (Lfo n) = lfo_limit patch_sensitivity n
limit_of Transpose = 48
limit_of (Letter i) = 127

-- THE PACKED FORM. Each field's byte, lowest bit and width, and its limit from the table.
-- an envelope, its bytes counted from its first: rates 0–3, levels 4–7
unfoldable pub envelope_field : EnvelopeName → Field
envelope_field (Rate i) = row i 0 7 (envelope_limit (Rate i))
envelope_field (Level i) = row (4 + i) 0 7 (envelope_limit (Level i))

-- keyboard scaling, bytes counted from the operator's first
unfoldable pub scaling_field : ScalingName → Field
scaling_field BreakPoint = row 8 0 7 (scaling_limit BreakPoint)
scaling_field LeftDepth = row 9 0 7 (scaling_limit LeftDepth)
scaling_field RightDepth = row 10 0 7 (scaling_limit RightDepth)
scaling_field LeftCurve = row 11 0 2 (scaling_limit LeftCurve)
scaling_field RightCurve = row 11 2 2 (scaling_limit RightCurve)

-- an operator, bytes counted from its first
unfoldable pub operator_field : OperatorName → Field
operator_field (Stage n) = envelope_field n
operator_field (Scaling n) = scaling_field n
operator_field RateScaling = row 12 0 3 (operator_limit RateScaling)
operator_field Detune = row 12 3 4 (operator_limit Detune)
operator_field AmplitudeSensitivity = row 13 0 2 (operator_limit AmplitudeSensitivity)
operator_field VelocitySensitivity = row 13 2 3 (operator_limit VelocitySensitivity)
operator_field OutputLevel = row 14 0 7 (operator_limit OutputLevel)
operator_field Mode = row 15 0 1 (operator_limit Mode)
operator_field Coarse = row 15 1 5 (operator_limit Coarse)
operator_field Fine = row 16 0 7 (operator_limit Fine)

-- The LFO, for a largest pitch sensitivity. Yamaha's bytes stop at 127, so three bits would do; the Rust shifts byte
-- 116 unmasked, and decides: four bits.
unfoldable pub lfo_field : ℕ → LfoName → Field
lfo_field sensitivity LfoRate = row 112 0 7 (lfo_limit sensitivity LfoRate)
lfo_field sensitivity LfoDelay = row 113 0 7 (lfo_limit sensitivity LfoDelay)
lfo_field sensitivity PitchDepth = row 114 0 7 (lfo_limit sensitivity PitchDepth)
lfo_field sensitivity AmplitudeDepth = row 115 0 7 (lfo_limit sensitivity AmplitudeDepth)
lfo_field sensitivity LfoReset = row 116 0 1 (lfo_limit sensitivity LfoReset)
lfo_field sensitivity Waveform = row 116 1 3 (lfo_limit sensitivity Waveform)
lfo_field sensitivity PitchSensitivity = row 116 4 4 (lfo_limit sensitivity PitchSensitivity)

-- a patch: operator k begins at byte 17 k, the pitch envelope at 102
unfoldable pub field_of : Place → Field
field_of (Of k n) = later (k * 17) (operator_field n)
field_of (Pitch n) = later 102 (envelope_field n)
field_of Algorithm = row 110 0 5 (limit_of Algorithm)
field_of Feedback = row 111 0 3 (limit_of Feedback)
field_of Reset = row 111 3 1 (limit_of Reset)
field_of (Lfo n) = lfo_field patch_sensitivity n
field_of Transpose = row 117 0 7 (limit_of Transpose)
field_of (Letter i) = row (118 + i) 0 7 (limit_of (Letter i))

-- LAYOUT ORDER
unfoldable pub stages : List ℕ
stages = 0 ∷ 1 ∷ 2 ∷ 3 ∷ []

unfoldable pub envelope_names : List EnvelopeName
envelope_names = Rate 0 ∷ Rate 1 ∷ Rate 2 ∷ Rate 3 ∷ Level 0 ∷ Level 1 ∷ Level 2 ∷ Level 3 ∷ []

unfoldable pub scaling_names : List ScalingName
scaling_names = BreakPoint ∷ LeftDepth ∷ RightDepth ∷ LeftCurve ∷ RightCurve ∷ []

-- an operator's 21 fields
unfoldable pub operator_names : List OperatorName
operator_names =
    map Stage envelope_names
    ++ (map Scaling scaling_names
    ++ (RateScaling ∷ Detune ∷ AmplitudeSensitivity ∷ VelocitySensitivity ∷ OutputLevel ∷ Mode ∷ Coarse ∷ Fine ∷ []))

unfoldable pub lfo_names : List LfoName
lfo_names = LfoRate ∷ LfoDelay ∷ PitchDepth ∷ AmplitudeDepth ∷ LfoReset ∷ Waveform ∷ PitchSensitivity ∷ []

unfoldable pub letters : List ℕ
letters = 0 ∷ 1 ∷ 2 ∷ 3 ∷ 4 ∷ 5 ∷ 6 ∷ 7 ∷ 8 ∷ 9 ∷ []

-- the 29 fields that the operators share
unfoldable pub shared_names : List Place
shared_names =
    map Pitch envelope_names
    ++ (Algorithm ∷ Feedback ∷ Reset ∷ (map Lfo lfo_names ++ (Transpose ∷ map Letter letters)))

-- all 155, an operator's in a given order
abbrev pub all_fields : List OperatorName → List Place
all_fields names =
    map (Of 0) names
    ++ (map (Of 1) names
    ++ (map (Of 2) names ++ (map (Of 3) names ++ (map (Of 4) names ++ (map (Of 5) names ++ shared_names)))))

unfoldable pub layout : List Place
layout = all_fields operator_names

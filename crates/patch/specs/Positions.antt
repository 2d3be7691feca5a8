-- Where each field stands in layout order, counted from 0: in a list of a patch's 155 numbers, the place of each. To be
-- believed; proofs/Positions has the law that it is layout order.
use Rattle.std.specs.Prelude.{ℕ, ◌+◌, ◌*◌}
use Rattle.patch.specs.Layout.{EnvelopeName, Rate, Level, ScalingName, BreakPoint, LeftDepth, RightDepth}
use Rattle.patch.specs.Layout.{LeftCurve, RightCurve, OperatorName, Stage, Scaling, RateScaling, Detune}
use Rattle.patch.specs.Layout.{AmplitudeSensitivity, VelocitySensitivity, OutputLevel, Mode, Coarse, Fine}
use Rattle.patch.specs.Layout.{LfoName, LfoRate, LfoDelay, PitchDepth, AmplitudeDepth, LfoReset, Waveform}
use Rattle.patch.specs.Layout.{PitchSensitivity, Place, Of, Pitch, Algorithm, Feedback, Reset, Lfo, Transpose}
use Rattle.patch.specs.Layout.{Letter}

unfoldable pub envelope_position : EnvelopeName → ℕ
envelope_position (Rate i) = i
envelope_position (Level i) = 4 + i

unfoldable pub scaling_position : ScalingName → ℕ
scaling_position BreakPoint = 0
scaling_position LeftDepth = 1
scaling_position RightDepth = 2
scaling_position LeftCurve = 3
scaling_position RightCurve = 4

unfoldable pub operator_position : OperatorName → ℕ
operator_position (Stage n) = envelope_position n
operator_position (Scaling n) = 8 + scaling_position n
operator_position RateScaling = 13
operator_position Detune = 14
operator_position AmplitudeSensitivity = 15
operator_position VelocitySensitivity = 16
operator_position OutputLevel = 17
operator_position Mode = 18
operator_position Coarse = 19
operator_position Fine = 20

unfoldable pub lfo_position : LfoName → ℕ
lfo_position LfoRate = 0
lfo_position LfoDelay = 1
lfo_position PitchDepth = 2
lfo_position AmplitudeDepth = 3
lfo_position LfoReset = 4
lfo_position Waveform = 5
lfo_position PitchSensitivity = 6

-- a field's position in layout order
unfoldable pub position : Place → ℕ
position (Of k n) = k * 21 + operator_position n
position (Pitch n) = 126 + envelope_position n
position Algorithm = 134
position Feedback = 135
position Reset = 136
position (Lfo n) = 137 + lfo_position n
position Transpose = 144
position (Letter i) = 145 + i

-- The structs as a form of the table: the number that a name names in each, and the struct whose numbers are given by
-- name. To be believed.
use Rattle.std.specs.Prelude.{◌≡◌, List, [], ◌∷◌, ℕ, ◌<◌, length, get_or}
use Rattle.patch.specs.declared.Envelope.{Envelope}
use Rattle.patch.specs.declared.KeyboardScaling.{KeyboardScaling}
use Rattle.patch.specs.declared.Operator.{Operator}
use Rattle.patch.specs.declared.ModulationParameters.{ModulationParameters}
use Rattle.patch.specs.declared.Patch.{Patch}
use Rattle.patch.specs.Layout.{EnvelopeName, Rate, Level}
use Rattle.patch.specs.Layout.{ScalingName, BreakPoint, LeftDepth, RightDepth, LeftCurve, RightCurve}
use Rattle.patch.specs.Layout.{OperatorName, Stage, Scaling, RateScaling, Detune, AmplitudeSensitivity}
use Rattle.patch.specs.Layout.{VelocitySensitivity, OutputLevel, Mode, Coarse, Fine}
use Rattle.patch.specs.Layout.{LfoName, LfoRate, LfoDelay, PitchDepth, AmplitudeDepth, LfoReset, Waveform}
use Rattle.patch.specs.Layout.{PitchSensitivity}
use Rattle.patch.specs.Layout.{Place, Of, Pitch, Algorithm, Feedback, Reset, Lfo, Transpose, Letter}

unfoldable pub envelope_with : (EnvelopeName → ℕ) → Envelope
envelope_with g = record {
  rate = g (Rate 0) ∷ g (Rate 1) ∷ g (Rate 2) ∷ g (Rate 3) ∷ [];
  level = g (Level 0) ∷ g (Level 1) ∷ g (Level 2) ∷ g (Level 3) ∷ [];
}

unfoldable pub scaling_with : (ScalingName → ℕ) → KeyboardScaling
scaling_with g = record {
  left_depth = g LeftDepth;
  right_depth = g RightDepth;
  left_curve = g LeftCurve;
  right_curve = g RightCurve;
  break_point = g BreakPoint;
}

unfoldable pub operator_with : (OperatorName → ℕ) → Operator
operator_with g = record {
  envelope = envelope_with (λ n. g (Stage n));
  keyboard_scaling = scaling_with (λ n. g (Scaling n));
  rate_scaling = g RateScaling;
  amp_mod_sensitivity = g AmplitudeSensitivity;
  velocity_sensitivity = g VelocitySensitivity;
  level = g OutputLevel;
  mode = g Mode;
  coarse = g Coarse;
  fine = g Fine;
  detune = g Detune;
}

unfoldable pub modulations_with : (LfoName → ℕ) → ModulationParameters
modulations_with g = record {
  delay = g LfoDelay;
  rate = g LfoRate;
  pitch_mod_depth = g PitchDepth;
  amp_mod_depth = g AmplitudeDepth;
  reset_phase = g LfoReset;
  waveform = g Waveform;
  pitch_mod_sensitivity = g PitchSensitivity;
}

unfoldable pub name_with : (Place → ℕ) → List ℕ
name_with g =
    g (Letter 0) ∷ g (Letter 1) ∷ g (Letter 2) ∷ g (Letter 3) ∷ g (Letter 4)
    ∷ g (Letter 5) ∷ g (Letter 6) ∷ g (Letter 7) ∷ g (Letter 8) ∷ g (Letter 9) ∷ []

-- the patch with these numbers and this number of active operators
unfoldable pub patch_with : (Place → ℕ) → ℕ → Patch
patch_with g active = record {
  op =
      operator_with (λ n. g (Of 0 n)) ∷ operator_with (λ n. g (Of 1 n)) ∷ operator_with (λ n. g (Of 2 n))
      ∷ operator_with (λ n. g (Of 3 n)) ∷ operator_with (λ n. g (Of 4 n)) ∷ operator_with (λ n. g (Of 5 n)) ∷ [];
  pitch_envelope = envelope_with (λ n. g (Pitch n));
  algorithm = g Algorithm;
  feedback = g Feedback;
  reset_phase = g Reset;
  modulations = modulations_with (λ n. g (Lfo n));
  transpose = g Transpose;
  name = name_with g;
  active_operators = active;
}

-- the patch of zeros, which a voice stores while it has none
unfoldable pub zero_patch : Patch
zero_patch = patch_with (λ n. 0) 0

unfoldable pub envelope_number : Envelope → EnvelopeName → ℕ
envelope_number e (Rate i) = get_or e.rate i 0
envelope_number e (Level i) = get_or e.level i 0

unfoldable pub scaling_number : KeyboardScaling → ScalingName → ℕ
scaling_number k BreakPoint = k.break_point
scaling_number k LeftDepth = k.left_depth
scaling_number k RightDepth = k.right_depth
scaling_number k LeftCurve = k.left_curve
scaling_number k RightCurve = k.right_curve

unfoldable pub operator_number : Operator → OperatorName → ℕ
operator_number o (Stage n) = envelope_number o.envelope n
operator_number o (Scaling n) = scaling_number o.keyboard_scaling n
operator_number o RateScaling = o.rate_scaling
operator_number o Detune = o.detune
operator_number o AmplitudeSensitivity = o.amp_mod_sensitivity
operator_number o VelocitySensitivity = o.velocity_sensitivity
operator_number o OutputLevel = o.level
operator_number o Mode = o.mode
operator_number o Coarse = o.coarse
operator_number o Fine = o.fine

unfoldable pub lfo_number : ModulationParameters → LfoName → ℕ
lfo_number m LfoRate = m.rate
lfo_number m LfoDelay = m.delay
lfo_number m PitchDepth = m.pitch_mod_depth
lfo_number m AmplitudeDepth = m.amp_mod_depth
lfo_number m LfoReset = m.reset_phase
lfo_number m Waveform = m.waveform
lfo_number m PitchSensitivity = m.pitch_mod_sensitivity

-- an operator of nothing, for a place past the end
unfoldable pub no_operator : Operator
no_operator = record {
  envelope = record { rate = []; level = [] };
  keyboard_scaling = scaling_with (λ n. 0);
  rate_scaling = 0;
  amp_mod_sensitivity = 0;
  velocity_sensitivity = 0;
  level = 0;
  mode = 0;
  coarse = 0;
  fine = 0;
  detune = 0;
}

-- operator k of six
unfoldable pub operator_at : List Operator → ℕ → Operator
operator_at os k = get_or os k no_operator

unfoldable pub number_of : Patch → Place → ℕ
number_of p (Of k n) = operator_number (operator_at p.op k) n
number_of p (Pitch n) = envelope_number p.pitch_envelope n
number_of p Algorithm = p.algorithm
number_of p Feedback = p.feedback
number_of p Reset = p.reset_phase
number_of p (Lfo n) = lfo_number p.modulations n
number_of p Transpose = p.transpose
number_of p (Letter i) = get_or p.name i 0

-- arrays as long as they are declared: what a patch's type says besides its record
pub record ShapedEnvelope (e : Envelope) : Type 0 where
  pub rates : length e.rate ≡ 4
  pub levels : length e.level ≡ 4

pub record Shaped (p : Patch) : Type 0 where
  pub operators : length p.op ≡ 6
  pub envelopes : (k : ℕ) → k < 6 → ShapedEnvelope (operator_at p.op k).envelope
  pub pitch : ShapedEnvelope p.pitch_envelope
  pub letters : length p.name ≡ 10

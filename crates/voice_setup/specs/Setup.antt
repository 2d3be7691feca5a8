-- What a patch sets up of its operators, after voice.rs, with one rounding per written operation. Definitions only.
use Rattle.std.specs.Prelude.{ℕ, zero, suc, ◌-◌, List, [], get_or, set, Float}
use Rattle.std.specs.Float.{nan}
use Rattle.numbers.specs.F32.{as_float}
use Rattle.dx_units_inner.specs.Units.{operator_level, frequency_ratio}
use Rattle.envelope_inner.specs.declared.Envelope.{Envelope}
use Rattle.envelope_inner.specs.Set.{operator_set}
use Rattle.patch.specs.declared.Operator.{Operator}
use Rattle.patch.specs.Form.{operator_at}
use Rattle.voice_setup.specs.declared.OperatorSetup.{OperatorSetup}
use Rattle.voice_setup.specs.declared.Setup.{Setup}

-- what stands past the last envelope: nothing asks for it
abbrev pub no_envelope : Envelope
no_envelope = record { stage = 0; phase = nan; start = nan; increment = []; level = []; scale = nan }

-- envelope i of six
abbrev pub envelope_at : List Envelope → ℕ → Envelope
envelope_at es i = get_or es i no_envelope

-- what scaling may add to a converted level
unfoldable pub headroom_of : ℕ → Float
headroom_of level = as_float (127 - level)

-- one operator's envelope, headroom and ratio; `high` and `low` are the ratio's tables
unfoldable pub operator_set_up : List Float → List Float → Envelope → Operator → OperatorSetup
operator_set_up high low e o =
    let level = operator_level o.level in
    record {
      envelope = operator_set e o.envelope.rate o.envelope.level level;
      level_headroom = headroom_of level;
      ratio = frequency_ratio high low o.mode o.coarse o.fine o.detune;
    }

-- operator i put in its place
unfoldable pub put_at : ℕ → OperatorSetup → Setup → Setup
put_at i one s = record {
  operator_envelope = set s.operator_envelope i one.envelope;
  ratios = set s.ratios i one.ratio;
  level_headroom = set s.level_headroom i one.level_headroom;
}

-- the first operators of a patch, in order
unfoldable pub set_up_to : List Float → List Float → List Operator → ℕ → Setup → Setup
set_up_to high low ops zero s = s
set_up_to high low ops (suc k) s =
    let t = set_up_to high low ops k s in
    put_at k (operator_set_up high low (envelope_at t.operator_envelope k) (operator_at ops k)) t

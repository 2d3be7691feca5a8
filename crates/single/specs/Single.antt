-- A single-voice dump: Yamaha's frame around a patch's 155 fields, a byte each. What it shares with the packed form,
-- the fields, their names and their limits, is `patch`'s table; the frame and the checksum are those of every dump.
-- Only where a field stands is said here. To be believed, but for the turn of an operator's fields at the end.
use Rattle.std.specs.Prelude.{Bool, cond, ◌&&◌, List, [], ◌∷◌, ◌++◌, map, ℕ, zero, suc, ◌+◌, ◌-◌, ◌%◌}
use Rattle.std.specs.Prelude.{get_or, eqb, leb, ltb, Result, Ok, Err}
use Rattle.std.specs.Result.{result_and}
use Rattle.refusals.specs.declared.Refusal.{Refusal}
use Rattle.refusals.specs.declared.Refusal.TheVariants.{Field}
use Rattle.dump.specs.declared.Form.{Form}
use Rattle.dump.specs.Dump.{yamaha_form, channel_byte, data_of, dump_check}
use Rattle.dump_writer.specs.Written.{written_of}
use Rattle.patch.specs.declared.Patch.{Patch}
use Rattle.patch.specs.Layout.{OperatorName, Stage, Scaling, RateScaling, Detune, AmplitudeSensitivity}
use Rattle.patch.specs.Layout.{VelocitySensitivity, OutputLevel, Mode, Coarse, Fine, Place, envelope_names}
use Rattle.patch.specs.Layout.{scaling_names, all_fields, lfo_sensitivity}
use Rattle.patch.specs.Form.{number_of, patch_with, zero_patch}
use Rattle.patch.specs.Positions.{position}
use Rattle.patch.specs.Packed.{patch_fits, unpack_of}
use Rattle.patch_packer.specs.Packing.{packed}
use Rattle.refusals.specs.declared.Refused.{Refused}
use Rattle.refusals.specs.Answer.{refused}
use Rattle.single.specs.declared.Parsed.{Parsed}
use Rattle.single.specs.declared.Repacked.{Repacked}

-- THE FORM: F0 43 0n 00 01 1B, n the channel, 155 data bytes, the checksum, F7
unfoldable pub single_form : Form
single_form = yamaha_form 0x00 155

-- THE ORDER of the data. An operator's 21 bytes: the packed order with shared bytes spread out, and detune last
unfoldable pub single_names : List OperatorName
single_names =
    map Stage envelope_names
    ++ (map Scaling scaling_names
    ++ (RateScaling ∷ AmplitudeSensitivity ∷ VelocitySensitivity ∷ OutputLevel ∷ Mode ∷ Coarse ∷ Fine ∷ Detune ∷ []))

-- all 155
unfoldable pub single_order : List Place
single_order = all_fields single_names

-- where a field stands in such an order, counted from 0
unfoldable pub stand_in : List Place → Place → ℕ
stand_in [] n = 0
stand_in (m ∷ ms) n = cond (eqb (position m) (position n)) 0 (suc (stand_in ms n))

-- a patch's data bytes, and the patch of data bytes: nothing is clamped, and all six operators are active
unfoldable pub data_bytes : Patch → List ℕ
data_bytes p = map (number_of p) single_order

unfoldable pub patch_in : List ℕ → Patch
patch_in bytes = patch_with (λ n. get_or bytes (stand_in single_order n) 0) 63

-- what 6 accepts: a patch that it accepts everywhere, and a pitch sensitivity of at most 7
unfoldable pub single_fits : Patch → Bool
single_fits p = patch_fits p && leb p.modulations.pitch_mod_sensitivity lfo_sensitivity

-- READING: 10 to 13 for the dump, then 6 for the patch in it
unfoldable pub parsed_of : List ℕ → Result Parsed Refusal
parsed_of dump =
    result_and (dump_check single_form dump)
    (cond (single_fits (patch_in (data_of single_form dump)))
    (Ok (record { channel = channel_byte dump; patch = patch_in (data_of single_form dump) })) (Err Field))

-- an answer with a state that is handed back in a refusal
abbrev pub handing_back : {T S : Type 0} → S → Result T Refusal → Result T (Refused S)
handing_back state (Ok x) = Ok x
handing_back state (Err e) = refused e state

unfoldable pub read_of : Patch → List ℕ → Result Parsed (Refused Patch)
read_of p dump = handing_back p (parsed_of dump)

-- WRITING: 6 for a patch that does not fit or a channel above 15
unfoldable pub write_of : Patch → ℕ → Result (List ℕ) Refusal
write_of p channel =
    cond (single_fits p && leb channel 15) (Ok (written_of single_form channel (data_bytes p))) (Err Field)

-- ACROSS: a packed patch is unpacked, with 1 for a short one, and written; a dump is read, and its patch packed
abbrev pub write_unpacked : ℕ → Result Patch (Refused Patch) → Result (List ℕ) Refusal
write_unpacked channel (Ok p) = write_of p channel
write_unpacked channel (Err r) = Err r.refusal

unfoldable pub from_packed_of : List ℕ → ℕ → Result (List ℕ) Refusal
from_packed_of s channel = write_unpacked channel (unpack_of zero_patch s)

abbrev pub repacked : Result Parsed Refusal → Result Repacked Refusal
repacked (Ok r) = Ok (record { channel = r.channel; bytes = packed r.patch })
repacked (Err e) = Err e

unfoldable pub to_packed_of : List ℕ → Result Repacked Refusal
to_packed_of dump = repacked (parsed_of dump)

-- The turn that the code makes between this order and `patch`'s layout order: of each operator's 21 numbers the last
-- seven move round by some places. The place that the number at place i is taken from
unfoldable pub turned_place : ℕ → ℕ → ℕ
turned_place by i =
    cond (ltb i 126 && leb 14 (i % 21)) (i - i % 21 + 14 + (i % 21 - 14 + by) % 7) i

-- the 155 numbers from place i on
unfoldable pub turned_from : ℕ → List ℕ → ℕ → ℕ → List ℕ
turned_from by s i zero = []
turned_from by s i (suc count) = get_or s (turned_place by i) 0 ∷ turned_from by s (suc i) count

unfoldable pub turned : ℕ → List ℕ → List ℕ
turned by s = turned_from by s 0 155

-- Single-voice dumps, there and back: reading what was written gives the patch and the channel, writing what was read
-- gives the dump, and so does going across to the packed form and back, either way. Assumes nothing.
use mathlib.Core.Path.{◌≡◌, ◌∙◌, ap, ap₂, subst}
use mathlib.Core.Bool.{true, and-eq-true_iff}
use mathlib.Core.List.{List}
use Prim.Native.Nat.{ℕ, ◌≤◌}
use borrow.Author.Tests.{eqb-true, le-leb, le-ltb}
use lib.Dec.{eqb}
use lib.ListN.{length, take}
use Rattle.std.specs.Prelude.{Result, Ok, Err}
use Rattle.refusals.specs.declared.Refusal.{Refusal}
use Rattle.dump.specs.Dump.{yamaha_form, channel_byte, data_of, dump_check}
use Rattle.dump.proofs.Channels.{sound_channel}
use Rattle.dump_writer.specs.Written.{written_of}
use Rattle.dump_writer.proofs.Written.{channel_written, data_written, sound_written, data_length, written_of_sound}
use Rattle.patch.specs.declared.Patch.{Patch}
use Rattle.patch.specs.Layout.{field_of, layout}
use Rattle.patch.specs.Form.{number_of, zero_patch, Shaped}
use Rattle.patch.specs.Packed.{within, unpacked, patch_fits, unpack_of}
use Rattle.patch.proofs.Reading.{unpacked_fits}
use Rattle.patch_packer.specs.Packing.{packed, Clean}
use Rattle.patch_packer.proofs.RoundTrip.{unpacked_of_packed, packed_of_unpacked, length_packed}
use Rattle.single.specs.declared.Parsed.{Parsed}
use Rattle.single.specs.Single.{single_form, data_bytes, patch_in, single_fits, handing_back, parsed_of, read_of}
use Rattle.single.specs.Single.{write_of, from_packed_of, to_packed_of}
use Rattle.single.proofs.Orders.{data_of_patch, patch_of_data, length_data, data_low}
use Rattle.single.proofs.Orders.{made_shaped}
use Rattle.single.proofs.Answers.{fits_everywhere, voice, parsed, parsed_sound}

-- a patch that fits has all its operators active
active : (p : Patch) → patch_fits p ≡ true → p.active_operators ≡ 63
unfolding patch_fits
active p e =
    eqb-true p.active_operators 63
    ((and-eq-true_iff (within field_of (number_of p) layout) (eqb p.active_operators 63)).0 e).1

-- writing, of what is accepted
module _ (p : Patch) (channel : ℕ) (fits : single_fits p ≡ true) (to : channel ≤ 15) where
  abbrev dump : List ℕ
  dump = written_of single_form channel (data_bytes p)

  pub write_accepts : write_of p channel ≡ Ok dump
  unfolding write_of
  write_accepts = rw (fits, le-leb channel 15 to)

  -- its data, its channel, and that it is sound
  data_back : data_of single_form dump ≡ data_bytes p
  unfolding single_form
  data_back = rw (← length_data p) (data_written 0x00 channel (data_bytes p))

  sound_back : dump_check single_form dump ≡ Ok tt
  unfolding single_form
  sound_back =
      subst
      (λ (k : ℕ). dump_check (yamaha_form 0x00 k) (written_of (yamaha_form 0x00 k) channel (data_bytes p)) ≡ Ok tt)
      (length_data p) (sound_written 0x00 channel (data_bytes p) to (data_low p (fits_everywhere p fits)))

  channel_back : channel_byte dump ≡ channel
  unfolding single_form
  channel_back =
      subst (λ (k : ℕ). channel_byte (written_of (yamaha_form 0x00 k) channel (data_bytes p)) ≡ channel) (length_data p)
      (channel_written 0x00 channel (data_bytes p))

  module _ (shaped : Shaped p) where
    patch_back : voice dump ≡ p
    patch_back = ap patch_in data_back ∙ patch_of_data p shaped (active p (fits_everywhere p fits))

    parsed_back : parsed_of dump ≡ Ok (record { channel = channel; patch = p })
    parsed_back =
        parsed dump sound_back (ap single_fits patch_back ∙ fits)
        ∙ ap₂ (λ (c : ℕ) (v : Patch). Ok (record { channel = c; patch = v })) channel_back patch_back

    -- READING WHAT WAS WRITTEN gives the patch and the channel
    pub read_of_write : (q : Patch)
        → (write_of p channel ≡ Ok dump) × (read_of q dump ≡ Ok (record { channel = channel; patch = p }))
    unfolding read_of
    read_of_write q = (write_accepts, rw parsed_back)

-- reading says the same whatever patch is handed in
pub parsed_read : (q : Patch) (dump : List ℕ) (r : Parsed) → read_of q dump ≡ Ok r → parsed_of dump ≡ Ok r
unfolding read_of
parsed_read q dump r e = at (parsed_of dump) e
  where
    at : (x : Result Parsed Refusal) → handing_back q x ≡ Ok r → x ≡ Ok r
    at (Ok y) h = cc
    at (Err y) h = cc

-- reading, of what is accepted
module _ (q : Patch) (dump : List ℕ) (r : Parsed) (accepted : read_of q dump ≡ Ok r) where
  as_parsed : parsed_of dump ≡ Ok r
  as_parsed = parsed_read q dump r accepted

  sound : dump_check single_form dump ≡ Ok tt
  sound = (parsed_sound dump r as_parsed).0

  is : r ≡ record { channel = channel_byte dump; patch = voice dump }
  is = (parsed_sound dump r as_parsed).2

  fits : single_fits r.patch ≡ true
  fits = rw is (parsed_sound dump r as_parsed).1

  below : r.channel ≤ 15
  unfolding single_form
  below = rw is (sound_channel 0x00 155 dump sound)

  written_back : written_of single_form r.channel (data_bytes r.patch) ≡ dump
  unfolding single_form
  written_back =
      rw is
      (ap (written_of single_form (channel_byte dump))
      (data_of_patch (data_of single_form dump) (data_length 0x00 155 dump sound))
      ∙ written_of_sound 0x00 155 dump sound)

  dump_back : write_of r.patch r.channel ≡ Ok dump
  dump_back = write_accepts r.patch r.channel fits below ∙ ap (λ (b : List ℕ). Ok b) written_back

  -- WRITING WHAT WAS READ, whatever patch was handed in, gives the dump back, byte for byte
  pub write_of_read : (p : Patch) → (read_of p dump ≡ Ok r) × (write_of r.patch r.channel ≡ Ok dump)
  unfolding read_of
  write_of_read p = (rw as_parsed, dump_back)

  repacked_is : to_packed_of dump ≡ Ok (record { channel = r.channel; bytes = packed r.patch })
  unfolding to_packed_of
  repacked_is = rw as_parsed

  -- going across, of what is read: the dump's channel byte, and the patch in its data
  pub to_accepts : (r ≡ record { channel = channel_byte dump; patch = voice dump })
      × (to_packed_of dump ≡ Ok (record { channel = r.channel; bytes = packed r.patch }))
  to_accepts = (is, repacked_is)

  -- the packed form is the same patch's, so it has the same identifier
  same_voice : unpacked (packed r.patch) ≡ r.patch
  unfolding patch_in
  same_voice = unpacked_of_packed r.patch (rw is (made_shaped _ 63)) (fits_everywhere r.patch fits)

  unpack_back : (p : Patch) → unpack_of p (packed r.patch) ≡ Ok r.patch
  unfolding unpack_of
  unpack_back p = rw (length_packed r.patch, same_voice)

  pub unpack_of_to : (p : Patch)
      → (to_packed_of dump ≡ Ok (record { channel = r.channel; bytes = packed r.patch }))
      × (unpack_of p (packed r.patch) ≡ Ok r.patch)
  unpack_of_to p = (repacked_is, unpack_back p)

  -- ACROSS AND BACK from a dump: the dump, byte for byte, and so the patch
  pub from_of_to : (to_packed_of dump ≡ Ok (record { channel = r.channel; bytes = packed r.patch }))
      × (from_packed_of (packed r.patch) r.channel ≡ Ok dump)
  unfolding from_packed_of
  from_of_to = (repacked_is, rw (unpack_back zero_patch) dump_back)

-- across and back from a packed patch whose sensitivity is at most 7: the patch, and its bytes if they were clean
abbrev sensitivity : List ℕ → ℕ
sensitivity s = (unpacked s).modulations.pitch_mod_sensitivity

module _ (s : List ℕ) (channel : ℕ) (long : 128 ≤ length s) (low : sensitivity s ≤ 7) (to : channel ≤ 15) where
  abbrev written : List ℕ
  written = written_of single_form channel (data_bytes (unpacked s))

  unpacked_fits_here : single_fits (unpacked s) ≡ true
  unfolding single_fits
  unpacked_fits_here = rw (unpacked_fits s) (le-leb (sensitivity s) 7 low)

  shaped : Shaped (unpacked s)
  unfolding unpacked
  shaped = made_shaped _ 63

  unpacked_written : from_packed_of s channel ≡ write_of (unpacked s) channel
  unfolding from_packed_of unpack_of
  unpacked_written = rw (le-ltb (length s) 128 long)

  -- going across, of what is accepted: the unpacked patch is written
  pub from_accepts : (from_packed_of s channel ≡ write_of (unpacked s) channel)
      × (from_packed_of s channel ≡ Ok written)
  from_accepts = (unpacked_written, unpacked_written ∙ write_accepts (unpacked s) channel unpacked_fits_here to)

  accepted_back : to_packed_of written ≡ Ok (record { channel = channel; bytes = packed (unpacked s) })
  accepted_back =
      repacked_is zero_patch written (record { channel = channel; patch = unpacked s })
      (read_of_write (unpacked s) channel unpacked_fits_here to shaped zero_patch).1

  -- the patch's packed form, and the channel
  pub to_of_from : (from_packed_of s channel ≡ Ok written)
      × (to_packed_of written ≡ Ok (record { channel = channel; bytes = packed (unpacked s) }))
  to_of_from = (from_accepts.1, accepted_back)

  -- ACROSS AND BACK from packed bytes: the same patch, and the same bytes if they were clean
  pub patch_across : (q : Patch)
      → (from_packed_of s channel ≡ Ok written)
      × (to_packed_of written ≡ Ok (record { channel = channel; bytes = packed (unpacked s) }))
      × (unpack_of q (packed (unpacked s)) ≡ Ok (unpacked s))
  unfolding unpack_of
  patch_across q = (
    from_accepts.1,
    accepted_back,
    rw (length_packed (unpacked s), unpacked_of_packed (unpacked s) shaped (unpacked_fits s)),
  )

  pub bytes_across : Clean s
      → (from_packed_of s channel ≡ Ok written)
      × (to_packed_of written ≡ Ok (record { channel = channel; bytes = packed (unpacked s) }))
      × (packed (unpacked s) ≡ take 128 s)
  bytes_across c = (from_accepts.1, accepted_back, packed_of_unpacked s long c)

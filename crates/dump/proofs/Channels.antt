-- The channel of a dump in Yamaha's frame: sixteen values are accepted and no others, and nothing else of the dump
-- depends on which of them it is. Assumes nothing.
use mathlib.Core.Path.{◌≡◌, refl, sym, ◌∙◌, ap}
use mathlib.Core.Bool.{Bool, true, false, false≢true, and-false}
use mathlib.Core.List.{List}
use Prim.Native.Nat.{ℕ, ◌+◌, ◌<◌, ◌≤◌}
use native.Mathlib.Omega.{arith}
use borrow.Author.Tests.{leb-true, leb-false, le-leb, lt-leb, eqb-true, eqb-false}
use lib.Dec.{eqb, leb}
use lib.ListN.{length, get_or, take, length-set}
use lib.Seq.{get_or-set_same, get_or-set_other, drop-set-lt}
use Rattle.std.specs.Prelude.{Result, Ok, Err}
use Rattle.std.specs.Result.{result_and}
use Rattle.refusals.specs.declared.Refusal.{Refusal}
use Rattle.refusals.specs.declared.Refusal.TheVariants.{FrameByte}
use Rattle.dump.specs.declared.Form.{Form}
use Rattle.dump.specs.Dump.{in_row, in_rows, channel_row, yamaha_form, size_of, framed, channel_byte}
use Rattle.dump.specs.Dump.{with_channel, data_of, sum_byte, dump_check, dump_channel}
use Rattle.dump.proofs.Numbers.{is_short, is_unframed, sound}

-- a byte is within the channel's row where it is one of sixteen, and else not
pub sixteen_row : (b : ℕ) → b ≤ 15 → in_row channel_row b ≡ true
sixteen_row b h = rw (le-leb 0 b (omega arith)) (le-leb b 15 h)

beyond_row : (b : ℕ) → 15 < b → in_row channel_row b ≡ false
beyond_row b h = rw (le-leb 0 b (omega arith)) (lt-leb b 15 h)

module _ (n : ℕ) (dump : List ℕ) where
  -- with another channel a dump is as long, and every other byte stays
  pub length_with : length (with_channel n dump) ≡ length dump
  length_with = length-set dump 2 n

  byte_with : (k : ℕ) → (k ≡ 2 → ⊥) → get_or (with_channel n dump) k 0 ≡ get_or dump k 0
  byte_with k apart = get_or-set_other dump 2 k n 0 apart

  channel_is : 2 < length dump → channel_byte (with_channel n dump) ≡ n
  channel_is h = get_or-set_same dump 2 n 0 h

module _ (format count : ℕ) where
  abbrev form : Form
  form = yamaha_form format count

  long : (dump : List ℕ) → length dump ≡ size_of form → 2 < length dump
  long dump l = omega arith

  -- the channel of a framed dump is one of sixteen
  framed_beyond : (dump : List ℕ) → 15 < channel_byte dump → framed form dump ≡ false
  unfolding in_rows
  framed_beyond dump h = rw (beyond_row (get_or dump 2 0) h, and-false, and-false)

  framed_channel : (dump : List ℕ) → framed form dump ≡ true → channel_byte dump ≤ 15
  framed_channel dump e = at (leb (channel_byte dump) 15) refl
    where
      at : (b : Bool) → leb (channel_byte dump) 15 ≡ b → channel_byte dump ≤ 15
      at true q = leb-true (channel_byte dump) 15 q
      at false q = absurd (false≢true (sym (framed_beyond dump (leb-false (channel_byte dump) 15 q)) ∙ e))

  module _ (n : ℕ) (dump : List ℕ) where
    -- with another channel the data and the checksum stay
    pub data_with : data_of form (with_channel n dump) ≡ data_of form dump
    data_with = ap (take count) (drop-set-lt 6 dump 2 n (omega arith))

    pub sum_byte_with : sum_byte form (with_channel n dump) ≡ sum_byte form dump
    sum_byte_with = byte_with n dump (6 + count) (λ e. omega arith)

    -- a channel beyond the sixteen is a wrong frame byte
    pub beyond_is_unframed : length dump ≡ size_of form → 15 < n
        → dump_check form (with_channel n dump) ≡ Err FrameByte
    beyond_is_unframed l h =
        sym (is_unframed form (with_channel n dump) (length_with n dump ∙ l)
        (framed_beyond (with_channel n dump) (rw (channel_is n dump (long dump l)) h)))

    module _ (from : channel_byte dump ≤ 15) (to : n ≤ 15) where
      -- from one of the sixteen to another the frame stays as right or wrong as it was
      framed_with : 2 < length dump → framed form (with_channel n dump) ≡ framed form dump
      unfolding in_rows
      framed_with h =
          rw (
            byte_with n dump 0 (λ e. omega arith),
            byte_with n dump 1 (λ e. omega arith),
            channel_is n dump h,
            sixteen_row n to,
            sixteen_row (get_or dump 2 0) from,
            byte_with n dump 3 (λ e. omega arith),
            byte_with n dump 4 (λ e. omega arith),
            byte_with n dump 5 (λ e. omega arith),
            byte_with n dump (6 + count + 1) (λ e. omega arith),
          )

      -- and so does what the check answers, sound or not
      pub check_with : dump_check form (with_channel n dump) ≡ dump_check form dump
      unfolding dump_check
      check_with = at (eqb (length dump) (size_of form)) refl
        where
          at : (b : Bool) → eqb (length dump) (size_of form) ≡ b
              → dump_check form (with_channel n dump) ≡ dump_check form dump
          at true e =
              rw (
                length_with n dump,
                framed_with (long dump (eqb-true (length dump) (size_of form) e)),
                data_with,
                sum_byte_with,
              )
          at false e =
              sym (is_short form (with_channel n dump)
              (λ l. eqb-false (length dump) (size_of form) e (sym (length_with n dump) ∙ l)))
              ∙ is_short form dump (eqb-false (length dump) (size_of form) e)

  module _ (dump : List ℕ) (accepted : dump_check form dump ≡ Ok tt) where
    -- the channel of a sound dump is one of sixteen
    pub sound_channel : channel_byte dump ≤ 15
    sound_channel = framed_channel dump (sound form dump accepted).right

    -- with a third byte of the sixteen, and with no other, a sound dump is sound
    pub sixteen_sound : (n : ℕ) → n ≤ 15 → dump_check form (with_channel n dump) ≡ Ok tt
    sixteen_sound n h = check_with n dump sound_channel h ∙ accepted

    pub sound_sixteen : (n : ℕ) → dump_check form (with_channel n dump) ≡ Ok tt → n ≤ 15
    sound_sixteen n e =
        rw (channel_is n dump (long dump (sound form dump accepted).long))
        at (framed_channel (with_channel n dump) (sound form (with_channel n dump) e).right)

    -- and then that is the channel that is told
    pub told_with : (n : ℕ) → n ≤ 15 → dump_channel form (with_channel n dump) ≡ Ok n
    told_with n h = rw (sixteen_sound n h, channel_is n dump (long dump (sound form dump accepted).long))

  -- a channel that is told is always one of the sixteen
  pub told_sixteen : (dump : List ℕ) (n : ℕ) → dump_channel form dump ≡ Ok n → n ≤ 15
  told_sixteen dump n = at (dump_check form dump) refl
    where
      at : (r : Result (Unit {0}) Refusal) → dump_check form dump ≡ r → result_and r (Ok (channel_byte dump)) ≡ Ok n
          → n ≤ 15
      at (Ok u) q e = let same : channel_byte dump ≡ n = cc in omega (arith, sound_channel dump q, same)
      at (Err x) q e = cc

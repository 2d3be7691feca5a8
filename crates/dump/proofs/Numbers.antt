-- What the check of a dump of any form answers, test by test, and what it says of a dump that it accepts. Assumes
-- nothing.
use mathlib.Core.Path.{◌≡◌, refl}
use mathlib.Core.Bool.{Bool, true, false, cond}
use mathlib.Core.List.{List}
use Prim.Native.Nat.{ℕ, ◌<◌, ◌≤◌}
use borrow.Author.Tests.{eqb-true, leb-true, eq-eqb, ne_eqb, le-leb, lt-leb}
use lib.Dec.{eqb, leb}
use lib.ListN.{length}
use Rattle.std.specs.Prelude.{Result, Ok, Err}
use Rattle.refusals.specs.declared.Refusal.{Refusal}
use Rattle.refusals.specs.declared.Refusal.TheVariants.{WrongLength, FrameByte, HighByte, Checksum}
use Rattle.dump.specs.declared.Form.{Form}
use Rattle.std.specs.Result.{result_and}
use Rattle.dump.specs.Dump.{size_of, framed, channel_byte, data_of, sum_byte, largest_of, summed}
use Rattle.dump.specs.Dump.{dump_check, dump_channel}

-- what it says of a dump that the check accepts it
pub record Sound (form : Form) (dump : List ℕ) : Type 0 where
  pub long : length dump ≡ size_of form
  pub right : framed form dump ≡ true
  pub low : largest_of (data_of form dump) ≤ 127
  pub summing : summed (data_of form dump) (sum_byte form dump) ≡ true

module _ (form : Form) (dump : List ℕ) where
  pub is_short : (length dump ≡ size_of form → ⊥) → Err WrongLength ≡ dump_check form dump
  unfolding dump_check
  is_short h = rw (ne_eqb (length dump) (size_of form) h)

  module _ (l : length dump ≡ size_of form) where
    pub is_unframed : framed form dump ≡ false → Err FrameByte ≡ dump_check form dump
    unfolding dump_check
    is_unframed f = rw (eq-eqb (length dump) (size_of form) l, f)

    module _ (f : framed form dump ≡ true) where
      pub is_high : 127 < largest_of (data_of form dump) → Err HighByte ≡ dump_check form dump
      unfolding dump_check
      is_high h = rw (eq-eqb (length dump) (size_of form) l, f, lt-leb (largest_of (data_of form dump)) 127 h)

      module _ (h : largest_of (data_of form dump) ≤ 127) where
        pub is_unsummed : summed (data_of form dump) (sum_byte form dump) ≡ false → Err Checksum ≡ dump_check form dump
        unfolding dump_check
        is_unsummed e =
            rw (eq-eqb (length dump) (size_of form) l, f, le-leb (largest_of (data_of form dump)) 127 h, e)

        pub is_sound : summed (data_of form dump) (sum_byte form dump) ≡ true → Ok tt ≡ dump_check form dump
        unfolding dump_check
        is_sound e =
            rw (eq-eqb (length dump) (size_of form) l, f, le-leb (largest_of (data_of form dump)) 127 h, e)

  -- a dump that the check accepts is sound
  pub sound : dump_check form dump ≡ Ok tt → Sound form dump
  unfolding dump_check
  sound e =
      at (eqb (length dump) (size_of form)) (framed form dump) (leb (largest_of (data_of form dump)) 127)
      (summed (data_of form dump) (sum_byte form dump)) refl refl refl refl e
    where
      at : (l f h s : Bool) → eqb (length dump) (size_of form) ≡ l → framed form dump ≡ f
          → leb (largest_of (data_of form dump)) 127 ≡ h → summed (data_of form dump) (sum_byte form dump) ≡ s
          → ◌≡◌ {A = Result (Unit {0}) Refusal} (cond l (cond f (cond h (cond s (Ok tt) (Err Checksum)) (Err HighByte))
          (Err FrameByte)) (Err WrongLength)) (Ok tt) → Sound form dump
      at true true true true l f h s z = record {
        long = eqb-true (length dump) (size_of form) l;
        right = f;
        low = leb-true (largest_of (data_of form dump)) 127 h;
        summing = s;
      }
      at true true true false l f h s z = cc
      at true true false s l f h q z = cc
      at true false h s l f p q z = cc
      at false f h s l p q r z = cc

  -- what the channel that is told, or the refusal in its place, says of the check
  pub told : (n : ℕ) → Ok n ≡ dump_channel form dump → (dump_check form dump ≡ Ok tt) × (channel_byte dump ≡ n)
  told n = at (dump_check form dump) refl
    where
      at : (r : Result (Unit {0}) Refusal) → dump_check form dump ≡ r
          → Ok n ≡ result_and r (Ok (channel_byte dump)) → (dump_check form dump ≡ Ok tt) × (channel_byte dump ≡ n)
      at (Ok u) q e = (q, cc)
      at (Err x) q e = cc

  pub not_told : (x : Refusal) → Err x ≡ dump_channel form dump → dump_check form dump ≡ Err x
  not_told x = at (dump_check form dump) refl
    where
      at : (r : Result (Unit {0}) Refusal) → dump_check form dump ≡ r
          → Err x ≡ result_and r (Ok (channel_byte dump)) → dump_check form dump ≡ Err x
      at (Ok u) q e = cc
      at (Err y) q e = cc

-- The two bytes that are pasted in are the number's: the greater one is below 256.
use mathlib.Core.Path.{◌≡◌, refl, sym, ◌∙◌}
use Prim.Native.Nat.{◌/◌, ◌%◌}
use native.Mathlib.Nat.{mod-eq_of_lt}
use native.Mathlib.Omega.{arith}
use Rattle.std.proofs.lemmas.Slice.{put_mid-paste}
use Rattle.std.proofs.lemmas.List.Edits.{sets-eq}
use Rattle.lent_bytes.specs.TwoBytes.{two_bytes, with_number}
use Rattle.lent_bytes.proofs.write_number.Goals as goal

pub returns : goal.returns
unfolding with_number two_bytes
returns c =
    let s = c.args.s.now in
    let n = c.args.number in
    let high : n / 256 % 256 ≡ n / 256 = mod-eq_of_lt (omega arith) in
    let bytes : c.copy_from_slice.new.self ≡ two_bytes n =
    rw high at (c.copy_from_slice.ensures.after ∙ c.to_le_bytes.ensures) in
    put_mid-paste c.args.at _ s _ (two_bytes n) 2 bytes (omega arith) refl
    ∙ sym (sets-eq (two_bytes n) s c.args.at (omega arith))

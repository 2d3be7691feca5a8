-- `lent_bytes::put` meets its contract. Assumes nothing.
use mathlib.Core.Path.{◌≡◌, ◌∙◌}
use mathlib.Core.List.{List}
use Prim.Native.Nat.{ℕ, ◌+◌, ◌<◌}
use native.Mathlib.Omega.{arith}
use native.Mathlib.Numerals.{add-one}
use lib.ListN.{length, get_or, set, length-set}
use lib.Seq.{paste, paste-suc}
use Rattle.lent_bytes.proofs.put.Goals as goal

step : (d : List ℕ) (at : ℕ) (b : List ℕ) (i : ℕ) (o : List ℕ) → o ≡ paste d at b i → at + i < length d → i < length b
    → set o (at + i) (get_or b i 0) ≡ paste d at b (i + 1)
step d at b i o e h k = rw (e, add-one) (paste-suc d at b i 0 h k)

pub loop-i-preserved : goal.loop-i-preserved
loop-i-preserved c =
    let b = c.args.b.now in
    let i = c.loop-i.i in (
      step c.args.out.now c.args.at b i c.loop-i.out c.loop-i.invariant.0 (omega arith) (omega arith),
      length-set c.loop-i.out (c.args.at + i) (get_or b i 0) ∙ c.loop-i.invariant.1,
    )

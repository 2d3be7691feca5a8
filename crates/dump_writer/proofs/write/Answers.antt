-- `dump_writer::write` meets its contract: the frame's two parts and the data fill the buffer. Assumes nothing.
use mathlib.Core.Path.{refl, ◌∙◌, ap}
use mathlib.Core.List.{List, [], ◌∷◌}
use Prim.Native.Nat.{ℕ, ◌+◌}
use native.Mathlib.Omega.{arith}
use lib.ListN.{length}
use lib.Seq.{paste}
use Rattle.dump.specs.Dump.{checksum_of}
use Rattle.dump_writer.specs.Written.{header_of}
use Rattle.dump_writer.proofs.Whole.{header_length, three_put}
use Rattle.dump_writer.proofs.write.Goals as goal

pub returns : goal.returns
returns c =
    let out = c.args.out.now in
    let bytes = c.args.«data».now in
    let form = c.args.form in
    three_put out (header_of form c.args.channel) bytes (checksum_of bytes ∷ form.last.from ∷ [])
    form.count _ _ _
    (c.put.ensures ∙ ap (λ (b : List ℕ). paste out 0 b (length b)) c.header-head.ensures)
    c.put-2.ensures
    (c.put-3.ensures
    ∙ ap (λ (k : ℕ). paste c.put-2.new.out (6 + form.count) (k ∷ form.last.from ∷ []) 2)
    c.checksum.ensures)
    (header_length form c.args.channel (omega arith))
    c.requires.0 refl c.requires.1

-- A dump that is written, of any form. Definitions only, all to be believed.
use Rattle.std.specs.Prelude.{List, [], ◌∷◌, ◌++◌, map, ℕ}
use Rattle.dump.specs.declared.Row.{Row}
use Rattle.dump.specs.declared.Form.{Form}
use Rattle.dump.specs.Dump.{with_channel, checksum_of}

-- the bytes before the data: each the least of its row, and the channel in its place
abbrev pub header_of : Form → ℕ → List ℕ
header_of f channel = with_channel channel (map (λ (r : Row). r.from) f.header)

-- the dump: the frame around the data and their checksum
abbrev pub written_of : Form → ℕ → List ℕ → List ℕ
written_of f channel bytes = header_of f channel ++ (bytes ++ (checksum_of bytes ∷ f.last.from ∷ []))

-- So many blocks, from the first on. Assumes nothing.
use Rattle.std.proofs.Common.{◌≡◌, ℕ, suc, ◌+◌, ◌-◌, ◌<◌, Bool, refl, arith}
use lib.Ieee.{Float}
use Rattle.identity.specs.declared.Playing.{Playing}
use Rattle.identity.specs.declared.Tables.{Tables}
use Rattle.identity.specs.Identity.{after, block_played, blocks_played}

-- with k of n blocks played, the next one and the rest
pub rest_of : (tables : Tables) (note : Float) (gate : Bool) (n k : ℕ) (s : Playing) → k < n
    → blocks_played tables note gate (n - k) s
    ≡ after (block_played tables note gate s) (blocks_played tables note gate (n - (k + 1)))
unfolding blocks_played
rest_of tables note gate n k s h =
    let e : n - k ≡ suc (n - (k + 1)) = omega arith in
    rw e refl

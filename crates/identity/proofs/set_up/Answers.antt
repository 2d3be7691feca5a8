-- `identity::set_up` meets its contract. Assumes nothing.
use Rattle.std.proofs.Common.{refl}
use Rattle.std.proofs.lemmas.Result.{err_from_is_err_and}
use lib.Ieee.{of_bits}
use Rattle.numbers.specs.F32.{decimal}
use Rattle.identity.specs.Identity.{set_up_for}
use Rattle.identity.proofs.set_up.Goals as goal

pub returns-in_err-rendered : goal.returns-in_err-rendered
unfolding set_up_for decimal of_bits
returns-in_err-rendered c =
    let p = err_from_is_err_and c.from_residual.result c.from_residual.ensures.1 in
    let r = rw c.parameters-p.ensures at c.in_err-rendered.ensures in
    rw (p.1, p.2, ← r) refl

pub returns : goal.returns
unfolding set_up_for decimal of_bits
returns c =
    let r = rw c.parameters-p.ensures at c.in_ok-rendered.ensures in
    rw (← r) refl

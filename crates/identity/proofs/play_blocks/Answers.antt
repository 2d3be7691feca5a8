-- `identity::play_blocks` meets its contract. Assumes nothing.
use Rattle.std.proofs.Common.{◌≡◌, ◌-◌, ◌∙◌, refl, sym, arith}
use Rattle.std.proofs.lemmas.Result.{err_from_is_err_and}
use Rattle.identity.specs.Identity.{blocks_played}
use Rattle.identity.proofs.Steps.{rest_of}
use Rattle.identity.proofs.play_blocks.Goals as goal

pub loop-init : goal.loop-init
loop-init c =
    let e : c.args.n - 0 ≡ c.args.n = omega arith in
    rw e refl

pub returns-in_err-now : goal.returns-in_err-now
returns-in_err-now c =
    let p = err_from_is_err_and c.from_residual.result c.from_residual.ensures.1 in
    let a = c.args in
    let h = rest_of a.tables.now a.note a.gate a.n c.loop.counter c.loop.now c.loop-test.true in
    rw (p.1, p.2) (sym (rw (← c.in_err-now.ensures) at h) ∙ c.loop.invariant)

pub loop-preserved : goal.loop-preserved
loop-preserved c =
    let a = c.args in
    let h = rest_of a.tables.now a.note a.gate a.n c.loop.counter c.loop.now c.loop-test.true in
    sym (rw (← c.in_ok-now.ensures) at h) ∙ c.loop.invariant

pub returns : goal.returns
unfolding blocks_played
returns c =
    let e : c.args.n - c.loop.counter ≡ 0 = omega arith in
    rw e at c.loop.invariant

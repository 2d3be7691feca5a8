-- `envelope_inner::render` meets its contract. Assumes nothing.
use mathlib.Core.Path.{refl}
use Rattle.envelope_inner.proofs.Positions.{followed_stage, rendered_of}
use Rattle.envelope_inner.proofs.render.Goals as goal

pub step-phase-requires : goal.step-phase-requires
step-phase-requires c =
    let a = c.args in
    followed_stage a.reshape a.gate a.rate a.ad_scale a.release_scale a.envelope
    (rw c.position.ensures at (c.follow-followed.ensures a.envelope refl)) c.requires

pub returns : goal.returns
returns c =
    let a = c.args in
    let e = a.envelope in
    rendered_of a.reshape a.gate a.rate a.ad_scale a.release_scale e
    (rw c.position.ensures at (c.follow-followed.ensures e refl)) (c.step-phase.ensures e refl) (c.advance.ensures e)

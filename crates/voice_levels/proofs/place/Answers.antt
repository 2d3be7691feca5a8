-- `voice_levels::place` meets its contract. Assumes nothing.
use Rattle.voice_levels.specs.Levels.{followed}
use Rattle.voice_levels.proofs.Places.{place_stage, place_on}
use Rattle.voice_levels.proofs.place.Goals as goal

pub returns-then-t : goal.returns-then-t
unfolding followed
returns-then-t c = simp (c.position-position.ensures, c.render_at_sample-value.ensures, c.if-t.true)

pub value_at-value-requires : goal.value_at-value-requires
value_at-value-requires c =
    let a = c.args in
    place_stage a.t a.reshape a.rate a.e c.render-position.ensures c.requires

pub returns : goal.returns
returns c =
    let a = c.args in
    place_on a.t a.reshape a.rate a.e c.render-position.ensures c.if-t.false c.value_at-value.ensures

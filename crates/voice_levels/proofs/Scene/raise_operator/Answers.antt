-- `voice_levels::Scene::raise_operator` meets its contract. Assumes nothing.
use Rattle.voice_levels.proofs.Calls.{raised_of}
use Rattle.voice_levels.proofs.Scene.raise_operator.Goals as goal

pub returns : goal.returns
returns c =
    let a = c.args in
    raised_of a.self a.op a.level_headroom a.opcode a.e
    c.rate_scaling.ensures c.place-p.ensures c.scaling.ensures

-- `voice_levels::level_operators` meets its contract: its two steps are the block. Assumes nothing.
use Rattle.voice_levels.proofs.Steps.{sounded_is_leveled}
use Rattle.voice_levels.proofs.level_operators.Goals as goal

pub returns : goal.returns
returns c =
    let a = c.args in
    sounded_is_leveled a.g a.op a.ratios a.level_headroom a.row a.operator_envelope a.operators
    c.raise_operators-l.ensures c.amplitudes_of-l.ensures

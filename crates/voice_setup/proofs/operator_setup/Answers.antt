-- `voice_setup::operator_setup` meets its contract. Assumes nothing.
use Rattle.dx_units_inner.proofs.Chart.{level_at_most_127}
use Rattle.voice_setup.proofs.Operators.{limits, set_up_lem}
use Rattle.voice_setup.proofs.operator_setup.Goals as goal

pub operator_level-level-requires : goal.operator_level-level-requires
operator_level-level-requires c = (limits _ c.requires).level

pub operator_set-envelope-requires : goal.operator_set-envelope-requires
operator_set-envelope-requires c = (limits _ c.requires).levels

pub headroom-level_headroom-requires : goal.headroom-level_headroom-requires
headroom-level_headroom-requires c =
    rw c.operator_level-level.ensures (level_at_most_127 _ (limits _ c.requires).level)

pub frequency_ratio-ratio-requires : goal.frequency_ratio-ratio-requires
frequency_ratio-ratio-requires c = (limits _ c.requires).coarse

pub returns : goal.returns
returns c =
    set_up_lem _ _ _ _ c.operator_level-level.ensures c.operator_set-envelope.ensures
    c.headroom-level_headroom.ensures c.frequency_ratio-ratio.ensures

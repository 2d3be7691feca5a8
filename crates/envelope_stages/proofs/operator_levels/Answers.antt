-- `envelope_stages::operator_levels` meets its contract: each level that the closure is given is on the chart. Assumes
-- nothing.
use Rattle.std.proofs.Common.{arith, length, ◌≡◌}
use Rattle.envelope_stages.proofs.OnChart.{each_on_chart}
use Rattle.envelope_stages.proofs.operator_levels.Goals as goal

pub map-requires : goal.map-requires
map-requires c =
    let four : length c.args.level ≡ 4 = omega arith in (
      omega arith,
      (
        omega arith,
        (
          omega arith,
          record {
            at = λ xs t q x u y f e κs p n w r g l. each_on_chart _ xs t u x c.requires four y e;
          },
        ),
      ),
    )

-- `dump::channel` meets its contract. A sound dump has a third byte. Assumes nothing.
use mathlib.Core.Path.{sym}
use native.Mathlib.Omega.{arith}
use Rattle.dump.proofs.Numbers.{sound}
use Rattle.dump.proofs.Places.{size_is}
use Rattle.dump.proofs.channel.Goals as goal

pub bounds-dump-2 : goal.bounds-dump-2
bounds-dump-2 c =
    let form = c.args.form in
    let long = (sound form c.args.dump.now (sym c.in_ok-check.ensures)).long in
    omega (arith, long, size_is form (omega arith))

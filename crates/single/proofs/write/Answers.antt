-- `single::write` meets its contract: what fits is written, on one of sixteen channels. Assumes nothing.
use Rattle.single.specs.Single.{write_of}
use Rattle.single.proofs.write.Goals as goal

pub returns-then-fits-channel : goal.returns-then-fits-channel
unfolding write_of
returns-then-fits-channel c = rw (← c.fits.ensures, c.if-fits-channel.true, c.write_whole.ensures)

pub returns-else-fits-channel : goal.returns-else-fits-channel
unfolding write_of
returns-else-fits-channel c = rw (← c.fits.ensures, c.if-fits-channel.false)

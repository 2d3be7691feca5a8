-- `lfo::init` meets its contract. Assumes nothing.
use Rattle.lfo_inner.specs.Lfo.{fresh_lfo, moved_to}
use Rattle.lfo.specs.Answers.{no_lfo, init_answer}
use Rattle.numbers.specs.F32.{decimal}
use lib.Ieee.{of_bits}
use mathlib.Core.Path.{◌∙◌, sym}
use Rattle.lfo.proofs.init.Goals as goal

pub returns-then-sample_rate_fits : goal.returns-then-sample_rate_fits
unfolding init_answer decimal of_bits
returns-then-sample_rate_fits c = simp (c.fresh.ensures, sym c.sample_rate_fits.ensures ∙ c.if-sample_rate_fits.true)

pub returns : goal.returns
unfolding init_answer no_lfo moved_to fresh_lfo decimal of_bits
returns c = simp (c.fresh-none.ensures, sym c.sample_rate_fits.ensures ∙ c.if-sample_rate_fits.false)

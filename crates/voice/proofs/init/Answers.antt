-- `voice::init` meets its contract. Assumes nothing.
use Rattle.voice.specs.Answers.{init_answer}
use Rattle.voice.specs.Voice.{fresh_voice, no_voice}
use Rattle.numbers.specs.F32.{decimal}
use lib.Ieee.{of_bits}
use Rattle.voice.proofs.Tests.{refused_by, accepted_by}
use Rattle.voice.proofs.init.Goals as goal

pub returns-then-not-is_counted : goal.returns-then-not-is_counted
unfolding init_answer no_voice decimal of_bits
returns-then-not-is_counted c = simp (c.voice_with.ensures, refused_by c.is_counted.ensures c.if-not-is_counted.true)

pub returns-then-not-sample_rate_fits : goal.returns-then-not-sample_rate_fits
unfolding init_answer no_voice decimal of_bits
returns-then-not-sample_rate_fits c =
    simp (
      c.voice_with-then-not-sample_rate_fits.ensures,
      accepted_by c.is_counted.ensures c.if-not-is_counted.false,
      refused_by c.sample_rate_fits.ensures c.if-not-sample_rate_fits.true,
    )

pub returns : goal.returns
unfolding init_answer fresh_voice decimal of_bits
returns c =
    simp (
      c.voice_with-2.ensures,
      accepted_by c.is_counted.ensures c.if-not-is_counted.false,
      accepted_by c.sample_rate_fits.ensures c.if-not-sample_rate_fits.false,
    )

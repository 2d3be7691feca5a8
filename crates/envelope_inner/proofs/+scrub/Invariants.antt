-- The measure of `envelope_inner::scrub` is the number of calls that are still allowed.
use Rattle.envelope_inner.proofs.+scrub.Given as goal

abbrev pub decreases-scrub : goal.decreases-scrub
decreases-scrub l = l.calls

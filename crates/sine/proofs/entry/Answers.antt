-- `sine::entry` meets its contract. Assumes nothing.
use mathlib.Core.Path.{refl, sym, subst}
use mathlib.Core.List.{List}
use lib.Dec.{T}
use lib.ListN.{get_or}
use lib.Ieee.{Float, nan}
use Rattle.sine.specs.Bound.{within}
use Rattle.sine.proofs.Bounded.{pairs_within}
use Rattle.sine.proofs.entry.Goals as goal

pub returns : goal.returns
returns c =
    let i = c.args.i in
    (refl, λ e. subst (λ (l : List Float). T (within (get_or l i nan))) (sym e) (pairs_within i c.requires))

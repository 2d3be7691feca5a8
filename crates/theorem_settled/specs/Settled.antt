-- A promise settles its answer: any two answers that its clauses allow for the same arguments coincide. The clauses
-- are those of the contract itself; nothing is said of the code. The logic's floats have one NaN and no payloads, so
-- what is equal is equal throughout. Definitions only.
use Rattle.std.specs.Prelude.{◌≡◌}
use seplogic.Ra.Ura.{Ura}
use base.Logic.{ent}
use contract.Lifetimes.{Lfts}
use contract.Monad.{fact, conj}
use denote.Triple.Entry.{Args, Res}
use denote.Triple.Clauses.{Ended, Clauses, Lasts, at_exit}

module _ {M : Type 1} (𝓤 : Ura M) (T : Ended) (promise : Clauses 𝓤 T) where
  -- what two answers z and y have in common, that leave ws and vs in the lent buffers, where the promise allows both
  abbrev pub Common : ((κs : Lfts T.signature.lifetimes) (a : Args T.signature κs) → Res T.signature κs
      → Res T.signature κs → Lasts T κs a → Lasts T κs a → Type 0) → Type 1
  Common Same =
      (κs : Lfts T.signature.lifetimes) (a : Args T.signature κs) (g : (promise κs a).ghost)
      (z y : Res T.signature κs) (ws vs : Lasts T κs a)
      → ent 𝓤
      (conj 𝓤 ((promise κs a).ensures g z (at_exit T κs a ws)) ((promise κs a).ensures g y (at_exit T κs a vs)))
      (fact 𝓤 (Same κs a z y ws vs))

  -- they are equal, and so is what every lent buffer holds afterwards
  abbrev pub Settled : Type 1
  Settled = Common (λ κs a z y ws vs. (z ≡ y) × (ws ≡ vs))

-- Why a call ends where it does, and which buffer a refused one lacks. Assumes nothing.
use mathlib.Core.Path.{◌≡◌, refl}
use mathlib.Core.Bool.{Bool, true, false, cond, not, ◌&&◌, ◌||◌, false≢true}
use mathlib.Core.Logic.{◌⊎◌, inl, inr}
use Prim.Native.Nat.{ℕ, zero, suc, ◌-◌, ◌≤◌, ◌<◌}
use native.Mathlib.Omega.{arith}
use mathlib.Core.List.{List, [], ◌∷◌}
use lib.ListN.{get_or, drop}
use Rattle.algorithms.specs.Chain.{last_operator, ends, grown, reused, chained, renders, call_length, rendered}
use Rattle.algorithms.specs.Plan.{reading, unready}
use Rattle.algorithms.specs.declared.Call.{Call}
use Rattle.algorithms.proofs.Lengths.{grown_some}

-- ---- a chain grows to the first operator at which it ends

-- at no operator before its last
pub goes_on : (os : List ℕ) (i : ℕ) → suc i < grown os → ends (get_or os i 0) (drop (suc i) os) ≡ false
unfolding grown
goes_on [] i h = absurd (omega arith)
goes_on (o ∷ os) i h = pick (ends o os) refl i h (goes_on os)
  where
    pick : (b : Bool) → ends o os ≡ b → (i : ℕ) → suc i < cond b 1 (suc (grown os))
        → ((j : ℕ) → suc j < grown os → ends (get_or os j 0) (drop (suc j) os) ≡ false)
        → ends (get_or (o ∷ os) i 0) (drop (suc i) (o ∷ os)) ≡ false
    pick true e i h f = absurd (omega arith)
    pick false e zero h f = e
    pick false e (suc i) h f = f i (omega arith)

-- a chain that ends at its first operator, or one operator later than the chain of g behind it
one_more : (o g : ℕ) (os : List ℕ) (b : Bool) → 1 ≤ g → ends o os ≡ b → ends (get_or os (g - 1) 0) (drop g os) ≡ true
    → ends (get_or (o ∷ os) (cond b 1 (suc g) - 1) 0) (drop (cond b 1 (suc g)) (o ∷ os)) ≡ true
one_more o g os true h e f = e
one_more o zero os false h e f = absurd (omega arith)
one_more o (suc g) os false h e f =
    let y : suc (suc g) - 1 ≡ suc g = omega arith in
    let z : suc g - 1 ≡ g = omega arith in
    rw y (rw z at f)

-- at its last
pub ends_there : (o : ℕ) (os : List ℕ)
    → ends (get_or (o ∷ os) (grown (o ∷ os) - 1) 0) (drop (grown (o ∷ os)) (o ∷ os)) ≡ true
unfolding grown ends last_operator
ends_there o [] = refl
ends_there o (p ∷ os) =
    one_more o (grown (p ∷ os)) (p ∷ os) (ends o (p ∷ os)) (grown_some p os) refl (ends_there p os)

-- ---- a call's length: the chain's, or 1 or 0 where the chain is reused or has no renderer

pub rendered_by : (operators : ℕ) (os : List ℕ)
    → rendered operators os
    ≡ cond (reused os || not (renders operators os (grown os))) (cond (renders operators os 1) 1 0) (grown os)
unfolding rendered call_length chained
rendered_by operators os = pick (reused os) (renders operators os (grown os)) (renders operators os 1) refl refl
  where
    length : Bool → ℕ
    length b = cond (renders operators os (cond b 1 (grown os))) (cond b 1 (grown os)) 1

    pick : (b r s : Bool) → renders operators os (grown os) ≡ r → renders operators os 1 ≡ s
        → cond (renders operators os (length b)) (length b) 0 ≡ cond (b || not r) (cond s 1 0) (grown os)
    pick true r true er es = rw es (rw es refl)
    pick true r false er es = rw es (rw es refl)
    pick false true s er es = rw er (rw er refl)
    pick false false s er es = rw er (rw es refl)

-- ---- a call that 4 refuses: the buffer that it reads, or the one that it adds to, is not ready

-- a buffer that is asked for is not ready
abbrev pub Unset : Bool → Bool → Type 0
Unset asked is_ready = (asked ≡ true) × (is_ready ≡ false)

module _ (is_ready : ℕ → Bool) (c : Call) where
  pub unset_cases : unready is_ready c ≡ true
      → Unset (reading c) (is_ready c.input) ⊎ Unset c.add (is_ready c.output)
  unfolding unready
  unset_cases e = pick (reading c) (is_ready c.input) c.add (is_ready c.output) e
    where
      pick : (a r b s : Bool) → ((a && not r) || (b && not s)) ≡ true → Unset a r ⊎ Unset b s
      pick true false b s e = inl (refl, refl)
      pick true true true false e = inr (refl, refl)
      pick true true true true e = absurd (false≢true e)
      pick true true false s e = absurd (false≢true e)
      pick false r true false e = inr (refl, refl)
      pick false r true true e = absurd (false≢true e)
      pick false r false s e = absurd (false≢true e)

  pub unset_read : Unset (reading c) (is_ready c.input) → unready is_ready c ≡ true
  unfolding unready
  unset_read h = rw (h.0, h.1) refl

  pub unset_added : Unset c.add (is_ready c.output) → unready is_ready c ≡ true
  unfolding unready
  unset_added h = pick (reading c && not (is_ready c.input)) c.add (is_ready c.output) h.0 h.1
    where
      pick : (a b s : Bool) → b ≡ true → s ≡ false → (a || (b && not s)) ≡ true
      pick true b s e f = refl
      pick false b s e f = rw (e, f) refl

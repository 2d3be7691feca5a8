-- A chain's growth step by step, and what a call's length comes to.
-- Assumes nothing.
use mathlib.Core.Path.{◌≡◌, refl, sym, ◌∙◌}
use mathlib.Core.Bool.{Bool, true, false, cond, not, ◌&&◌, ◌||◌, and-false}
use Prim.Native.Nat.{ℕ, zero, suc, ◌+◌, ◌-◌, ◌≤◌, ◌<◌}
use native.Mathlib.Nat.{not-suc-le-zero}
use native.Mathlib.Omega.{arith}
use mathlib.Core.List.{List, [], ◌∷◌}
use lib.Dec.{eqb, leb, eqb-suc-zero}
use lib.ListN.{length, get_or, take, drop, length-drop}
use lib.Seq.{get_or-take, drop-cons}
use borrow.Author.Tests.{eqb-true, eqb-false, ne_eqb, eq-eqb, lt-leb}
use Rattle.std.specs.Prelude.{Some, None}
use Rattle.algorithms.specs.Opcode.{adding, source, flagged}
use native.Mathlib.Numerals.{add-one}
use Rattle.algorithms.specs.Chain.{last_operator, unmet, ends, grown, reused, chained, Modulation}
use Rattle.algorithms.specs.Chain.{origin_from, modulation, known, renders, call_length, rendered, some}
use Rattle.algorithms.specs.Chain.Modulation.{unmodulated, external, feedback, originless}

-- a chain is one operator at the row's last
pub grown_last : (o : ℕ) → grown (o ∷ []) ≡ 1
unfolding grown ends last_operator
grown_last o = refl

-- with an operator behind it, a chain ends at an operator or goes on
ends_next : (o p : ℕ) (os : List ℕ) → ends o (p ∷ os) ≡ (unmet o (p ∷ []) || adding o)
unfolding ends last_operator unmet
ends_next o p os = rw (eqb-suc-zero (length os))

pub grown_end : (o p : ℕ) (os : List ℕ) → not (unmet o (p ∷ []) || adding o) ≡ false → grown (o ∷ p ∷ os) ≡ 1
unfolding grown
grown_end o p os e = rw ends_next (pick (unmet o (p ∷ []) || adding o) e)
  where
    pick : (b : Bool) → not b ≡ false → cond b 1 (suc (grown (p ∷ os))) ≡ 1
    pick true e = refl
    pick false e = absurd (mathlib.Core.Bool.true≢false e)

pub grown_more : (o p : ℕ) (os : List ℕ) → not (unmet o (p ∷ []) || adding o) ≡ true
    → grown (o ∷ p ∷ os) ≡ suc (grown (p ∷ os))
unfolding grown
grown_more o p os e = rw ends_next (pick (unmet o (p ∷ []) || adding o) e)
  where
    pick : (b : Bool) → not b ≡ true → cond b 1 (suc (grown (p ∷ os))) ≡ suc (grown (p ∷ os))
    pick true e = absurd (mathlib.Core.Bool.false≢true e)
    pick false e = refl

-- ---- the growth from an operator on

module _ (os : List ℕ) (i : ℕ) where
  -- at the last operator, or behind it
  pub last_at : length os ≤ i + 1 → grown (drop i os) ≡ length os - i
  unfolding grown
  last_at h = short (drop i os) (omega (arith, length-drop i os)) ∙ length-drop i os
    where
      short : (r : List ℕ) → length r ≤ 1 → grown r ≡ length r
      short [] l = refl
      short (o ∷ []) l = grown_last o
      short (o ∷ p ∷ r) l = absurd (omega arith)

  module _ (h : i + 1 < length os) where
    two_at : drop i os ≡ get_or os i 0 ∷ get_or os (i + 1) 0 ∷ drop (suc (suc i)) os
    two_at = drop-cons os i 0 (omega arith) ∙ rw (drop-cons os (suc i) 0 (omega arith), add-one i) refl

    pub end_at : not (unmet (get_or os i 0) (get_or os (i + 1) 0 ∷ []) || adding (get_or os i 0)) ≡ false
        → grown (drop i os) ≡ 1
    end_at e = rw two_at (grown_end (get_or os i 0) (get_or os (i + 1) 0) (drop (suc (suc i)) os) e)

    pub more_at : not (unmet (get_or os i 0) (get_or os (i + 1) 0 ∷ []) || adding (get_or os i 0)) ≡ true
        → grown (drop i os) ≡ suc (grown (drop (i + 1) os))
    more_at e =
        let back : drop (i + 1) os ≡ get_or os (i + 1) 0 ∷ drop (suc (suc i)) os = rw (add-one i) (drop-cons os (suc
        i) 0 (omega arith)) in
        rw (two_at, back) (grown_more (get_or os i 0) (get_or os (i + 1) 0) (drop (suc (suc i)) os) e)

-- ---- a chain's length

-- a choice lies where both do
cond_least : (b : Bool) (x y n : ℕ) → n ≤ x → n ≤ y → n ≤ cond b x y
cond_least true x y n h k = h
cond_least false x y n h k = k

pub cond_most : (b : Bool) (x y n : ℕ) → x ≤ n → y ≤ n → cond b x y ≤ n
cond_most true x y n h k = h
cond_most false x y n h k = k

-- a chain is an operator or more, and stays in the row
pub grown_some : (o : ℕ) (os : List ℕ) → 1 ≤ grown (o ∷ os)
unfolding grown
grown_some o os = cond_least (ends o os) 1 (suc (grown os)) 1 (omega arith) (omega arith)

pub grown_within : (os : List ℕ) → grown os ≤ length os
unfolding grown
grown_within [] = omega arith
grown_within (o ∷ os) =
    cond_most (ends o os) 1 (suc (grown os)) (suc (length os)) (omega arith) (omega (arith, grown_within os))

chained_some : (o : ℕ) (os : List ℕ) → 1 ≤ chained (o ∷ os)
unfolding chained
chained_some o os = cond_least (reused (o ∷ os)) 1 (grown (o ∷ os)) 1 (omega arith) (grown_some o os)

chained_within : (o : ℕ) (os : List ℕ) → chained (o ∷ os) ≤ suc (length os)
unfolding chained
chained_within o os =
    cond_most (reused (o ∷ os)) 1 (grown (o ∷ os)) (suc (length os)) (omega arith) (grown_within (o ∷ os))

pub chained_range : (os : List ℕ) → 0 < length os → (1 ≤ chained os) × (chained os ≤ length os)
chained_range [] h = absurd (omega arith)
chained_range (o ∷ os) h = (chained_some o os, chained_within o os)

-- ---- a call's length

-- a chain without feedback, or of other than six operators, has a renderer only where it is one operator
one_or_one : (n : ℕ) → cond (eqb n 1) n 1 ≡ 1
one_or_one n = pick (eqb n 1) refl
  where
    pick : (b : Bool) → eqb n 1 ≡ b → cond b n 1 ≡ 1
    pick true e = eqb-true n 1 e
    pick false e = refl

known_few : (operators n : ℕ) (m : Modulation) (add : Bool) → eqb operators 6 ≡ false
    → cond (known operators n m add) n 1 ≡ 1
unfolding known
known_few operators n unmodulated add e = one_or_one n
known_few operators n external add e = one_or_one n
known_few operators n (feedback j) add e = rw e (pick (eqb n 1) (eqb j 0) refl)
  where
    pick : (b d : Bool) → eqb n 1 ≡ b → cond ((b && d) || false) n 1 ≡ 1
    pick true true e = eqb-true n 1 e
    pick true false e = refl
    pick false d e = refl
known_few operators n originless add e = refl

pub few_one : (operators : ℕ) (os : List ℕ) → (operators ≡ 6 → ⊥) → 1 ≡ call_length operators os
unfolding call_length renders
few_one operators os h = sym (known_few operators (chained os) _ _ (ne_eqb operators 6 h))

-- what a list's first operators are modulated by
pub modulation_first : (o n : ℕ) (os : List ℕ) → 1 ≤ n
    → modulation (take n (o ∷ os))
    ≡ cond (eqb (source o) 0) unmodulated (cond (eqb (source o) 3) (origin_from 0 originless (take n (o ∷ os)))
    external)
unfolding modulation
modulation_first o n os h = rw (get_or-take n (o ∷ os) 0 0 h)

pub dry_one : (operators o : ℕ) (os : List ℕ) → (source o ≡ 3 → ⊥) → 1 ≡ call_length operators (o ∷ os)
unfolding call_length renders known
dry_one operators o os h =
    rw (modulation_first o (chained (o ∷ os)) os (chained_some o os), ne_eqb (source o) 3 h) (pick (eqb (source o) 0))
  where
    pick : (b : Bool)
        → 1 ≡ cond (known operators (chained (o ∷ os)) (cond b unmodulated external) (adding (get_or (o ∷ os) (chained
        (o ∷ os) - 1) 0))) (chained (o ∷ os)) 1
    pick true = sym (one_or_one (chained (o ∷ os)))
    pick false = sym (one_or_one (chained (o ∷ os)))

-- a feedback chain of n of six operators, n up to 3, has a renderer where its last operator adds and is the origin
two_known : (a f g : Bool) → known 6 2 (cond g (feedback 1) (cond f (feedback 0) originless)) a ≡ (a && g)
unfolding known
two_known true true true = refl
two_known true true false = refl
two_known true false true = refl
two_known true false false = refl
two_known false true true = refl
two_known false true false = refl
two_known false false true = refl
two_known false false false = refl

three_known : (a f g k : Bool)
    → known 6 3 (cond k (feedback 2) (cond g (feedback 1) (cond f (feedback 0) originless))) a ≡ (a && k)
unfolding known
three_known true f g true = refl
three_known false f g true = refl
three_known true f true false = refl
three_known false f true false = refl
three_known true true false false = refl
three_known false true false false = refl
three_known true false false false = refl
three_known false false false false = refl

-- one operator has a renderer where it wants no feedback, or is the origin
one_known : (operators : ℕ) (a f : Bool) → known operators 1 (cond f (feedback 0) originless) a ≡ f
unfolding known
one_known operators a true = refl
one_known operators a false = refl

known_one : (operators o : ℕ) (os : List ℕ) → renders operators (o ∷ os) 1 ≡ cond (eqb (source o) 3) (flagged o) true
unfolding renders origin_from known
known_one operators o os =
    rw (modulation_first o 1 os (omega arith)) (pick (eqb (source o) 0) (eqb (source o) 3) refl refl)
  where
    pick : (b d : Bool) → eqb (source o) 0 ≡ b → eqb (source o) 3 ≡ d
        → known operators 1 (cond b unmodulated (cond d (cond (flagged o) (feedback 0) originless) external)) (adding o)
        ≡ cond d (flagged o) true
    pick true true e f = let z : ◌≡◌ {A = ℕ} 0 3 = sym (eqb-true (source o) 0 e) ∙ eqb-true (source o) 3 f in absurd
        (omega arith)
    pick true false e f = refl
    pick false true e f = one_known operators (adding o) (flagged o)
    pick false false e f = refl

fed : (o n : ℕ) (os : List ℕ) → 1 ≤ n → source o ≡ 3
    → modulation (take n (o ∷ os)) ≡ origin_from 0 originless (take n (o ∷ os))
fed o n os h e = modulation_first o n os h ∙ rw (eq-eqb (source o) 3 e, ne_eqb (source o) 0 (omega arith))

known_many : (n : ℕ) (m : Modulation) (add : Bool) → 3 < n → known 6 n m add ≡ false
unfolding known
known_many n unmodulated add h = ne_eqb n 1 (omega arith)
known_many n external add h = ne_eqb n 1 (omega arith)
known_many n (feedback j) add h =
    rw (ne_eqb n 1 (omega arith), ne_eqb n 2 (omega arith), ne_eqb n 3 (omega arith)) (and-false add)
known_many n originless add h = refl

one_same : (b : Bool) → ◌≡◌ {A = ℕ} (cond b 1 1) 1
one_same true = refl
one_same false = refl

-- the call's length where the chain's is n
fed_length : (n : ℕ) (o : ℕ) (os : List ℕ) → source o ≡ 3 → 1 ≤ n → n ≤ suc (length os)
    → cond (renders 6 (o ∷ os) n) n 1
    ≡ cond (leb n 3 && (adding (get_or (o ∷ os) (n - 1) 0) && flagged (get_or (o ∷ os) (n - 1) 0))) n 1
unfolding renders origin_from
fed_length zero o os e h k = absurd (not-suc-le-zero h)
fed_length (suc zero) o os e h k = one_same (renders 6 (o ∷ os) 1) ∙ sym (one_same (adding o && flagged o))
fed_length (suc (suc zero)) o [] e h k = absurd (omega arith)
fed_length (suc (suc zero)) o (p ∷ os) e h k = rw (fed o 2 (p ∷ os) h e, two_known (adding p) (flagged o) (flagged p))
fed_length (suc (suc (suc zero))) o [] e h k = absurd (omega arith)
fed_length (suc (suc (suc zero))) o (p ∷ []) e h k = absurd (omega arith)
fed_length (suc (suc (suc zero))) o (p ∷ q ∷ os) e h k =
    rw (fed o 3 (p ∷ q ∷ os) h e, three_known (adding q) (flagged o) (flagged p) (flagged q))
fed_length (suc (suc (suc (suc n)))) o os e h k =
    rw (
      known_many (suc (suc (suc (suc n)))) (modulation (take (suc (suc (suc (suc n)))) (o ∷ os))) _ (omega arith),
      lt-leb (suc (suc (suc (suc n)))) 3 (omega arith),
    )

-- a call of feedback, of six operators, is a chain where it is one of at most 3, and its last operator adds and is the
-- origin
module _ (os : List ℕ) (h : 0 < length os) where
  pub dry_at : (operators : ℕ) → (source (get_or os 0 0) ≡ 3 → ⊥) → 1 ≡ call_length operators os
  dry_at operators z = go os h z
    where
      go : (r : List ℕ) → 0 < length r → (source (get_or r 0 0) ≡ 3 → ⊥) → 1 ≡ call_length operators r
      go [] h z = absurd (omega arith)
      go (o ∷ r) h z = dry_one operators o r z

  pub fed_at : (operators : ℕ) → operators ≡ 6 → source (get_or os 0 0) ≡ 3
      → call_length operators os
      ≡ cond (leb (chained os) 3 && (adding (get_or os (chained os - 1) 0) && flagged (get_or os (chained os - 1) 0)))
      (chained os) 1
  unfolding call_length
  fed_at operators e z = rw e (go os h z)
    where
      go : (r : List ℕ) → 0 < length r → source (get_or r 0 0) ≡ 3
          → cond (renders 6 r (chained r)) (chained r) 1
          ≡ cond (leb (chained r) 3 && (adding (get_or r (chained r - 1) 0) && flagged (get_or r (chained r - 1) 0)))
          (chained r) 1
      go [] h z = absurd (omega arith)
      go (o ∷ r) h z = fed_length (chained (o ∷ r)) o r z (chained_some o r) (chained_within o r)

-- ---- a call's renderer

-- a call of several operators has one
several_rendered : (operators : ℕ) (os : List ℕ) → (call_length operators os ≡ 1 → ⊥)
    → call_length operators os ≡ rendered operators os
unfolding rendered call_length
several_rendered operators os h = pick (renders operators os (chained os)) refl h
  where
    pick : (b : Bool) → renders operators os (chained os) ≡ b → (cond b (chained os) 1 ≡ 1 → ⊥)
        → cond b (chained os) 1 ≡ cond (renders operators os (cond b (chained os) 1)) (cond b (chained os) 1) 0
    pick true e h = rw e
    pick false e h = absurd (h refl)

pub rendered_within : (operators o : ℕ) (os : List ℕ) → rendered operators (o ∷ os) ≤ suc (length os)
unfolding rendered call_length
rendered_within operators o os =
    let k = cond_most (renders operators (o ∷ os) (chained (o ∷ os))) (chained (o ∷ os)) 1 (suc (length os))
    (chained_within o os) (omega arith) in
    cond_most (renders operators (o ∷ os) (call_length operators (o ∷ os))) (call_length operators (o ∷ os)) 0
    (suc (length os)) k (omega arith)

pub rendered_most : (operators : ℕ) (os : List ℕ) → 0 < length os → rendered operators os ≤ length os
rendered_most operators [] h = absurd (omega arith)
rendered_most operators (o ∷ os) h = rendered_within operators o os

call_some : (operators o : ℕ) (os : List ℕ) → 1 ≤ call_length operators (o ∷ os)
unfolding call_length
call_some operators o os =
    cond_least (renders operators (o ∷ os) (chained (o ∷ os))) (chained (o ∷ os)) 1 1 (chained_some o os) (omega arith)

-- one operator has no renderer where it wants feedback and is no origin itself; any other call has one
rendered_as : (operators o : ℕ) (os : List ℕ) (n : ℕ) → n ≡ call_length operators (o ∷ os)
    → rendered operators (o ∷ os) ≡ cond (eqb n 1 && (eqb (source o) 3 && not (flagged o))) 0 n
unfolding rendered
rendered_as operators o os n e = pick (eqb n 1) refl
  where
    one : (b d : Bool) → ◌≡◌ {A = ℕ} (cond (cond b d true) 1 0) (cond (b && not d) 0 1)
    one true true = refl
    one true false = refl
    one false d = refl

    pick : (b : Bool) → eqb n 1 ≡ b
        → cond (renders operators (o ∷ os) (call_length operators (o ∷ os))) (call_length operators (o ∷ os)) 0
        ≡ cond (b && (eqb (source o) 3 && not (flagged o))) 0 n
    pick true x =
        let z : n ≡ 1 = eqb-true n 1 x in
        rw (sym e ∙ z, z, known_one operators o os) (one (eqb (source o) 3) (flagged o))
    pick false x = let z = eqb-false n 1 x in sym (e ∙ several_rendered operators (o ∷ os) (λ y. z (e ∙ y)))

pub some_rendered : (operators : ℕ) (os : List ℕ) → 0 < length os → (n : ℕ) → n ≡ call_length operators os
    → some (rendered operators os)
    ≡ cond (eqb n 1 && (eqb (source (get_or os 0 0)) 3 && not (flagged (get_or os 0 0)))) None (Some n)
unfolding some
some_rendered operators [] h n e = absurd (omega arith)
some_rendered operators (o ∷ os) h n e = rw (rendered_as operators o os n e) (pick (eqb n 1 && (eqb (source o) 3 &&
    not (flagged o))))
  where
    pick : (b : Bool) → cond (eqb (cond b 0 n) 0) None (Some (cond b 0 n)) ≡ cond b None (Some n)
    pick true = refl
    pick false = rw (ne_eqb n 0 (omega (arith, call_some operators o os))) refl

-- a length that there is, and one that there is not
pub some_is : (r n : ℕ) → Some n ≡ some r → (n ≡ r) × (1 ≤ n)
unfolding some
some_is r n e = pick (eqb r 0) refl e
  where
    pick : (b : Bool) → eqb r 0 ≡ b → Some n ≡ cond b None (Some r) → (n ≡ r) × (1 ≤ n)
    pick true x e = absurd cc
    pick false x e = let z : n ≡ r = cc in let y = eqb-false r 0 x in (z, omega arith)

pub none_is : (r : ℕ) → None ≡ some r → r ≡ 0
unfolding some
none_is r e = pick (eqb r 0) refl e
  where
    pick : (b : Bool) → eqb r 0 ≡ b → None ≡ cond b None (Some r) → r ≡ 0
    pick true x e = eqb-true r 0 x
    pick false x e = absurd cc

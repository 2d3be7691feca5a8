-- What a call takes, part by part: bytes of the frame, bytes of a patch, and those behind the data. Assumes nothing.
use mathlib.Core.Path.{◌≡◌, refl, sym, ◌∙◌, ap}
use mathlib.Core.Bool.{Bool, true, false, cond, ◌&&◌, and-false}
use mathlib.Core.List.{List, [], ◌∷◌, ◌++◌, append-nil}
use Prim.Native.Nat.{ℕ, zero, suc, ◌+◌, ◌-◌, ◌<◌, ◌≤◌, min}
use native.Mathlib.Omega.{arith}
use borrow.Author.Tests.{leb-true, leb-false, ne_eqb, le-leb, lt-leb, lt-ltb, le-ltb}
use lib.Dec.{leb, ltb}
use lib.ListN.{length, take, drop, length-drop, take-append-drop, drop_of_length-le}
use lib.Seq.{paste, take-add, take-take, take-length, length-take-le}
use Rattle.std.specs.Prelude.{Option, None, Some}
use Rattle.bank_pieces.specs.declared.Receiver.{Receiver}
use Rattle.bank_pieces.specs.Pieces.{Held, Took, passed, passed_all, place_in, slot_at, came_all, summed_with}
use Rattle.bank_pieces.specs.Pieces.{missing, completes, takes, took, frame_with, is_right}
use Rattle.bank_pieces.proofs.Bytes.{came_append, passed_append, came_first, came_rest, held, stored_some}
use Rattle.bank_pieces.proofs.Bytes.{stored_whole}

-- a part of a piece that is put somewhere is so many bytes of the piece put there
pub paste_part : (d : List ℕ) (at : ℕ) (s : List ℕ) (n : ℕ) → n ≤ length s
    → paste d at (take n s) (length (take n s)) ≡ paste d at s n
paste_part d at s n l =
    ap (paste d at (take n s)) (length-take-le n s l)
    ∙ ap (λ (t : List ℕ). take at d ++ t ++ drop (at + n) d) (take-take n n s (omega arith))

-- and a whole patch of them is all that stands there
pub whole_is : (d s : List ℕ) → length d ≡ 128 → take 128 s ≡ paste d 0 s 128
whole_is d s w =
    sym (ap (λ (t : List ℕ). take 128 s ++ t) (drop_of_length-le d {i = 128} (omega arith)) ∙ append-nil (take 128 s))

-- an accepted answer, by the reader and the buffer behind the call
abbrev pub answered : Held → ℕ → Option ℕ → Took
answered h n complete = record {
  taken = record { receiver = h.receiver; taken = n; complete = complete };
  patch = h.patch;
}

module _ (r : Receiver) (piece patch : List ℕ) where
  abbrev start : Held
  start = record { receiver = r; patch = patch }

  took_is : (b : Bool) (n : ℕ) (h : Held) → completes r.count (length piece) ≡ b
      → cond b (missing r.count) (length piece) ≡ n → came_all start (take n piece) ≡ h
      → answered h n (cond b (Some (slot_at r.count)) None) ≡ took r piece patch
  unfolding took takes
  took_is b n h e f g = rw (e, f, g) refl

  -- all of a piece that completes no patch
  took_all : (h : Held) → completes r.count (length piece) ≡ false → came_all start piece ≡ h
      → answered h (length piece) None ≡ took r piece patch
  took_all h e g = took_is false (length piece) h e refl (ap (came_all start) (take-length piece) ∙ g)

  -- too few bytes for the patch at hand
  pub few : length piece < missing r.count → completes r.count (length piece) ≡ false
  unfolding completes
  few l = rw (lt-leb (missing r.count) (length piece) l, and-false) refl

  enough_is : r.count < 4102 → missing r.count ≤ length piece → completes r.count (length piece) ≡ true
  unfolding completes
  enough_is t l = rw (lt-ltb r.count 4102 t) (le-leb (missing r.count) (length piece) l)

  room_is : 6 ≤ r.count → missing r.count ≡ 128 - place_in r.count
  unfolding missing
  room_is l = omega arith

  module _ (wide : length patch ≡ 128) (from : 6 ≤ r.count) (to : r.count < 4102) where
    pub took_some : (q : Receiver) (p : List ℕ) → length piece < 128 - place_in r.count
        → q ≡ record { count = r.count + length piece; frame = r.frame; sum = r.sum; ended = r.ended }
        → p ≡ paste patch (place_in r.count) piece (length piece)
        → answered (record { receiver = q; patch = p }) (length piece) None ≡ took r piece patch
    took_some q p l e f =
        rw (e, f)
        (took_all (held r (r.count + length piece) r.sum (paste patch (place_in r.count) piece (length piece)))
        (few (rw (room_is from) l))
        (sym (ap (came_all start) (take-length piece))
        ∙ stored_some r piece patch wide from to (length piece) (omega arith) (omega arith)))

    -- enough of them
    pub took_whole : (room sum : ℕ) (p : List ℕ) → room ≡ 128 - place_in r.count → room ≤ length piece
        → p ≡ paste patch (place_in r.count) piece room → sum ≡ summed_with r.sum p
        → answered (held r (r.count + room) sum p) room (Some (slot_at r.count)) ≡ took r piece patch
    took_whole zero sum p s l e f = let w : ⊥ = omega arith in absurd w
    took_whole (suc j) sum p s l e f =
        rw (f, e)
        (took_is true (suc j)
        (held r (r.count + suc j) (summed_with r.sum (paste patch (place_in r.count) piece (suc j)))
        (paste patch (place_in r.count) piece (suc j)))
        (enough_is to (omega (arith, room_is from))) (room_is from ∙ sym s)
        (stored_whole r piece patch wide from to j l (omega arith)))

  -- behind the data all is taken
  pub took_rest : 4102 ≤ r.count → (q : Receiver) → q ≡ passed_all r piece
      → answered (record { receiver = q; patch = patch }) (length piece) None ≡ took r piece patch
  unfolding completes
  took_rest l q e =
      rw e
      (took_all (record { receiver = passed_all r piece; patch = patch }) (rw (le-ltb r.count 4102 l) refl)
      (came_rest start piece l))

  -- bytes of the frame and no others
  pub took_frame : r.count + length piece ≤ 6 → (q : Receiver) → q ≡ passed_all r piece
      → answered (record { receiver = q; patch = patch }) (length piece) None ≡ took r piece patch
  unfolding missing
  took_frame l q e =
      rw e
      (took_all (record { receiver = passed_all r piece; patch = patch }) (few (omega arith))
      (came_first start piece l))

-- BYTES OF THE FRAME, then others: what is left of the piece is taken as a piece of its own
abbrev pub onward : ℕ → Took → Took
onward n t = record {
  taken = record {
    receiver = t.taken.receiver;
    taken = n + t.taken.taken;
    complete = t.taken.complete;
  };
  patch = t.patch;
}

module _ (r q : Receiver) (piece patch : List ℕ) (n : ℕ) (six : r.count + n ≡ 6) (also : q.count ≡ 6)
    (l : n ≤ length piece) where
  left_is : length (drop n piece) ≡ length piece - n
  left_is = length-drop n piece

  complete_on : completes r.count (length piece) ≡ completes q.count (length (drop n piece))
  unfolding completes missing
  complete_on =
      rw (also, left_is, lt-ltb r.count 4102 (omega arith)) (at (leb 128 (length piece - n)) refl)
    where
      at : (b : Bool) → leb 128 (length piece - n) ≡ b
          → leb ((6 - r.count) + (128 - place_in r.count)) (length piece) ≡ b
      at true e =
          let h = leb-true 128 (length piece - n) e in
          le-leb ((6 - r.count) + (128 - place_in r.count)) (length piece) (omega arith)
      at false e =
          let h = leb-false 128 (length piece - n) e in
          lt-leb ((6 - r.count) + (128 - place_in r.count)) (length piece) (omega arith)

  taken_on : (b : Bool)
      → cond b (missing r.count) (length piece) ≡ n + cond b (missing q.count) (length (drop n piece))
  unfolding missing
  taken_on true = omega (arith, six, also)
  taken_on false = omega (arith, left_is, l)

  abbrev first : Held
  first = record { receiver = q; patch = patch }

  abbrev begin : Held
  begin = record { receiver = r; patch = patch }

  abbrev rest : Bool → ℕ
  rest b = cond b (missing q.count) (length (drop n piece))

  abbrev last : Bool → Held
  last b = came_all first (take (rest b) (drop n piece))

  pub took_on : q ≡ passed_all r (take n piece) → onward n (took q (drop n piece) patch) ≡ took r piece patch
  took_on e = at (completes q.count (length (drop n piece))) refl
    where
      came_frame : came_all begin (take n piece) ≡ first
      came_frame =
          came_first begin (take n piece) (omega (arith, length-take-le n piece l, six))
          ∙ ap (λ (s : Receiver). record { receiver = s; patch = patch }) (sym e)

      at : (b : Bool) → completes q.count (length (drop n piece)) ≡ b
          → onward n (took q (drop n piece) patch) ≡ took r piece patch
      at b f =
          ap (onward n) (sym (took_is q (drop n piece) patch b (rest b) (last b) f refl refl))
          ∙ ap (λ (k : ℕ). answered (last b) (n + rest b) (cond b (Some k) None)) (omega (arith, six, also))
          ∙ took_is r piece patch b (n + rest b) (last b) (complete_on ∙ f) (taken_on b)
          (ap (came_all begin) (take-add n (rest b) piece)
          ∙ came_append begin (take n piece) (take (rest b) (drop n piece))
          ∙ ap (λ (k : Held). came_all k (take (rest b) (drop n piece))) came_frame)

-- a call takes no more than it is given
pub taken_least : (r : Receiver) (piece patch : List ℕ) → (took r piece patch).taken.taken ≤ length piece
unfolding took takes completes
taken_least r piece patch = at (ltb r.count 4102) (leb (missing r.count) (length piece)) refl
  where
    at : (b d : Bool) → leb (missing r.count) (length piece) ≡ d
        → cond (b && d) (missing r.count) (length piece) ≤ length piece
    at true true e = leb-true (missing r.count) (length piece) e
    at true false e = omega arith
    at false d e = omega arith

-- HOW FAR BYTES THAT ARE NO DATA COUNT
pub passed_count : (r : Receiver) (bs : List ℕ) → r.count ≤ 18446744073709551615
    → (passed_all r bs).count ≡ min (r.count + length bs) 18446744073709551615
unfolding passed
passed_count r [] l = omega arith
passed_count r (b ∷ bs) l = let e = passed_count (passed r b) bs (omega arith) in omega arith

-- a reader with another count
abbrev recounted : Receiver → ℕ → Receiver
recounted r n = record { count = n; frame = r.frame; sum = r.sum; ended = r.ended }

-- what is too much is only counted
beyond : (r : Receiver) (bs : List ℕ) → 4104 ≤ r.count → r.count ≤ 18446744073709551615
    → passed_all r bs ≡ recounted r (min (r.count + length bs) 18446744073709551615)
unfolding passed frame_with is_right
beyond r [] l m = ap (recounted r) (omega arith)
beyond r (b ∷ bs) l m =
    rw (
      ne_eqb r.count 2 (λ e. omega arith),
      le-ltb r.count 6 (omega arith),
      ne_eqb r.count 4103 (λ e. omega arith),
      ne_eqb r.count 4102 (λ e. omega arith),
    )
    (beyond (recounted r (min (r.count + 1) 18446744073709551615)) bs (omega arith) (omega arith)
    ∙ ap (recounted r) (omega arith))

empty : (q : Receiver) → passed_all q [] ≡ q
empty q = refl

pub passed_rest : (r : Receiver) (piece : List ℕ) (n : ℕ) (q : Receiver) (k : ℕ) → 4102 ≤ r.count
    → r.count ≤ 18446744073709551615 → n ≡ min (4104 - r.count) (length piece) → q ≡ passed_all r (take n piece)
    → k ≡ min (q.count + (length piece - n)) 18446744073709551615
    → recounted q k ≡ passed_all r piece
passed_rest r piece n q k from top least e f = at (leb (length piece) n) refl
  where
    whole : passed_all r piece ≡ passed_all q (drop n piece)
    whole =
        ap (passed_all r) (sym (take-append-drop n piece))
        ∙ passed_append r (take n piece) (drop n piece)
        ∙ ap (λ (s : Receiver). passed_all s (drop n piece)) (sym e)

    count : q.count ≡ min (r.count + n) 18446744073709551615
    count =
        ap (λ (s : Receiver). s.count) e ∙ passed_count r (take n piece) top
        ∙ ap (λ (m : ℕ). min (r.count + m) 18446744073709551615) (length-take-le n piece (omega arith))

    nothing : drop n piece ≡ [] → passed_all q (drop n piece) ≡ q
    nothing g = ap (passed_all q) g ∙ empty q

    at : (b : Bool) → leb (length piece) n ≡ b → recounted q k ≡ passed_all r piece
    at true l =
        let all = leb-true (length piece) n l in
        ap (recounted q) (omega (arith, f, count))
        ∙ sym (whole ∙ nothing (drop_of_length-le piece all))
    at false l =
        let some = leb-false (length piece) n l in
        ap (recounted q) (omega (arith, f, length-drop n piece))
        ∙ sym (whole ∙ beyond q (drop n piece) (omega (arith, count)) (omega (arith, count)))

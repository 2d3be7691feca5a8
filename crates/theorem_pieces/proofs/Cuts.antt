-- However a bank is cut, its reports are the full runs of its bytes, and the end says what the reader of whole banks
-- says. Assumes nothing.
use mathlib.Core.Path.{◌≡◌, refl, sym, ◌∙◌, ap, subst}
use mathlib.Core.Bool.{Bool, true, false, cond, ◌&&◌, or-true}
use mathlib.Core.List.{List, [], ◌∷◌, ◌++◌, append-nil, append_assoc}
use Prim.Native.Nat.{ℕ, zero, suc, ◌<◌, ◌≤◌}
use native.Mathlib.Omega.{arith}
use native.Mathlib.Decide.{ℕ_discrete, dec_le, dec_lt}
use borrow.Author.Tests.{leb-true, eq-eqb, ne_eqb, le-leb, lt-leb, lt-ltb, le-ltb}
use lib.Dec.{leb, ltb}
use lib.ListN.{length, get_or, take, drop, length-drop, take-append-drop}
use lib.Seq.{take-length, length-take-le}
use Rattle.std.specs.Prelude.{Result, Ok, Err}
use Rattle.std.specs.Result.{result_and, result_map_both}
use Rattle.refusals.specs.declared.Refusal.{Refusal}
use Rattle.refusals.specs.declared.Refusal.TheVariants.{ForeignState}
use Rattle.refusals.specs.Answer.{refused}
use Rattle.dump.specs.Dump.{channel_byte, dump_check, largest_of, size_of}
use Rattle.bank.specs.Bank.{bank_form, slot_of, part_of, validate_of, channel_of}
use Rattle.dump.proofs.Numbers.{is_short, sound}
use Rattle.bank.proofs.Parts.{part_of_sound}
use Rattle.bank_pieces.specs.declared.Receiver.{Receiver}
use Rattle.bank_pieces.specs.Pieces.{Held, Answered, possible, counting, missing, completes, takes, took}
use Rattle.bank_pieces.specs.Pieces.{accepted, take_of}
use Rattle.bank_pieces.specs.Pieces.{closing, closed, end_of, frame_with, is_right}
use Rattle.theorem_pieces.specs.Cuts.{Line, begun, told, called, called_all, giving, given, given_all}
use Rattle.theorem_pieces.specs.Cuts.{together, run_count, runs_below, runs_of, parts_below, Agrees}
use Rattle.theorem_pieces.specs.Cuts.{taken_by, told_at_end, after_end}
use Rattle.theorem_pieces.proofs.Frames.{frame_from, frame_right, frame_channel}
use Rattle.theorem_pieces.proofs.Sums.{sum_low, sum_right}
use Rattle.theorem_pieces.proofs.Known.{Known, known_first, sum_behind, sum_none}
use Rattle.theorem_pieces.proofs.Reports.{reports, known_all, reports_rest, reports_few, reports_whole}

-- A READER THAT PIECES LEFT is possible, so no piece and no end is refused before the end
module _ (r : Receiver) (going : r.ended ≡ false) where
  -- behind the first patch
  late : 134 ≤ r.count → possible r ≡ true
  unfolding possible
  late l = rw (going, le-leb 134 r.count l)

  -- before its end there is no sum
  module _ (none : r.sum ≡ 0) where
    -- with the third byte
    third : 3 ≤ r.count → possible r ≡ true
    unfolding possible
    third l = rw (going, none, le-leb 3 r.count l, or-true)

    -- where all bytes are right, and where one is wrong
    right : r.frame ≡ 0 → possible r ≡ true
    unfolding possible
    right f = simp (going, none, f, or-true)

    wrong : r.frame ≡ 255 → 0 < r.count → possible r ≡ true
    unfolding possible
    wrong f c = simp (going, none, f, lt-ltb 0 r.count c, or-true)

    -- with a byte or two, each right or wrong
    either : (p q : Bool) → r.frame ≡ cond p (cond q 0 255) 255 → 0 < r.count → possible r ≡ true
    either true true f c = right f
    either true false f c = wrong f c
    either false q f c = wrong f c

    -- so with any few bytes
    few : (xs : List ℕ) → r.count ≡ counting 0 (length xs) → r.frame ≡ frame_from 0 0 xs → possible r ≡ true
    unfolding frame_from frame_with
    few [] c f = right f
    few (a ∷ []) c f = either (is_right 0 a) true f (omega arith)
    few (a ∷ b ∷ []) c f = either (is_right 1 b) (is_right 0 a) f (omega arith)
    few (a ∷ b ∷ t ∷ rest) c f = third (omega arith)

-- and with any bytes
pub known_possible : (xs : List ℕ) (h : Held) → Known xs h → possible h.receiver ≡ true
known_possible xs h k = elim (dec_le 134 (length xs)) [
  | yes l ↦ late h.receiver k.going (omega arith)
  | no l ↦ few h.receiver k.going (k.summing ∙ sum_none xs (omega arith)) xs k.counted k.framing
]

-- WHAT IS KNOWN OF A LINE: what its bytes tell, and that their full runs are its reports
abbrev held : Line → Held
held l = record { receiver = l.receiver; patch = l.patch }

pub record Told (l : Line) : Type 0 where
  pub known : Known l.bytes (held l)
  pub tells : l.reports ≡ runs_of l.bytes

-- of a fresh one
begun_told : (patch : List ℕ) → length patch ≡ 128 → Told (begun patch)
unfolding runs_of run_count runs_below
begun_told patch w = record { known = known_first patch w; tells = refl }

-- A CALL takes all bytes, or one at least
takes_some : (c n : ℕ) → (takes c n ≡ n → ⊥) → (0 < takes c n) × (0 < n)
unfolding takes completes missing
takes_some c n = at (ltb c 4102) (leb (missing c) n) refl
  where
    at : (p q : Bool) → leb (missing c) n ≡ q → (cond (p && q) (missing c) n ≡ n → ⊥)
        → (0 < cond (p && q) (missing c) n) × (0 < n)
    at true true e d = let l = leb-true (missing c) n e in omega arith
    at true false e d = absurd (d refl)
    at false q e d = absurd (d refl)

module _ (l : Line) (piece : List ℕ) where
  abbrev count : ℕ
  count = l.receiver.count

  -- what the call answers, and how many bytes it took
  abbrev answer : Answered
  answer = take_of l.receiver piece l.patch

  abbrev taken : ℕ
  taken = taken_by answer.answer

  -- it reports what its bytes report one by one
  tells_so : told (accepted (took l.receiver piece l.patch))
      ≡ reports (held l) (take (takes count (length piece)) piece)
  unfolding told took takes completes
  tells_so = elim (dec_lt count 4102) [
    | no e ↦ rw (le-ltb count 4102 (omega arith)) (sym (reports_rest (held l) _ (omega arith)))
    | yes e ↦ elim (dec_le (missing count) (length piece)) [
      | yes m ↦
          rw (lt-ltb count 4102 e, le-leb (missing count) (length piece) m)
          (sym (reports_whole (held l) (take (missing count) piece) e (length-take-le (missing count) piece m)))
      | no m ↦
          rw (lt-ltb count 4102 e, lt-leb (missing count) (length piece) (omega arith), take-length piece)
          (sym (reports_few (held l) piece e (omega arith)))
    ]
  ]

  module _ (t : Told l) where
    -- it is not refused
    not_refused : answer ≡ accepted (took l.receiver piece l.patch)
    unfolding take_of
    not_refused = rw (known_possible l.bytes (held l) t.known)

    -- it takes as many bytes as it says
    pub takes_is : taken ≡ takes count (length piece)
    unfolding took
    takes_is = ap (λ (k : Answered). taken_by k.answer) not_refused

    -- and afterwards as much is known
    pub called_told : Told (called l piece)
    unfolding called took
    called_told =
        let next = known_all l.bytes (held l) (take (takes count (length piece)) piece) t.known in
        rw not_refused (record { known = next.0; tells = rw (t.tells, tells_so) next.1 })

    -- what is left is shorter
    left_shorter : (turns : ℕ) → length piece < suc turns → (taken ≡ length piece → ⊥)
        → length (drop taken piece) < turns
    left_shorter turns h d =
        let some = takes_some count (length piece) (λ e. d (takes_is ∙ e)) in
        rw (length-drop taken piece, takes_is) (omega arith)

-- as after any calls
calls_told : (l : Line) (pieces : List (List ℕ)) → Told l → Told (called_all l pieces)
unfolding called_all
calls_told l [] t = t
calls_told l (piece ∷ pieces) t = calls_told (called l piece) pieces (called_told l piece t)

-- A PIECE whose rest is given again is taken whole
giving_told : (turns : ℕ) (l : Line) (piece : List ℕ) → Told l → length piece < turns
    → Told (giving turns l piece) × ((giving turns l piece).bytes ≡ l.bytes ++ piece)
unfolding giving called
giving_told zero l piece t h = absurd (omega arith)
giving_told (suc turns) l piece t h = elim (ℕ_discrete (taken l piece) (length piece)) [
  | yes e ↦ rw (eq-eqb (taken l piece) (length piece) e) (called_told l piece t, rw (e, take-length))
  | no d ↦
      let rest = drop (taken l piece) piece in
      let next = giving_told turns (called l piece) rest (called_told l piece t) (left_shorter l piece t turns h d) in
      rw (ne_eqb (taken l piece) (length piece) d) (next.0, next.1 ∙ simp (append_assoc, take-append-drop))
]

-- and so is a list of them
given_told : (l : Line) (pieces : List (List ℕ)) → Told l
    → Told (given_all l pieces) × ((given_all l pieces).bytes ≡ l.bytes ++ together pieces)
unfolding given_all together given
given_told l [] t = (t, sym (append-nil l.bytes))
given_told l (piece ∷ pieces) t =
    let one = giving_told (suc (length piece)) l piece t (omega arith) in
    let next = given_told (giving (suc (length piece)) l piece) pieces one.0 in
    (next.0, next.1 ∙ rw one.1 (append_assoc l.bytes piece (together pieces)))

-- THE CLOSING ANSWER is that of the reader of whole banks
size_is : size_of bank_form ≡ 4104
unfolding bank_form
size_is = refl

module _ (xs : List ℕ) (h : Held) (k : Known xs h) where
  abbrev r : Receiver
  r = h.receiver

  abbrev bytes : List ℕ
  bytes = take 4096 (drop 6 xs)

  abbrev sum : ℕ
  sum = get_or xs 4102 0

  -- of as many bytes as a bank has, both answers by the same tests
  closing_whole : length xs ≡ 4104 → closing r ≡ validate_of xs
  unfolding closing dump_check bank_form
  closing_whole e =
      rw (
        eq-eqb r.count 4104 (omega arith),
        eq-eqb (length xs) 4104 e,
        k.framing,
        frame_right xs e,
        k.summing,
        sum_behind xs (omega arith),
        sum_low bytes sum,
      )
      (elim (dec_le (largest_of bytes) 127) [
        | yes m ↦ rw (sum_right bytes sum m)
        | no m ↦ rw (lt-leb (largest_of bytes) 127 (omega arith))
      ])

  -- any other length is refused
  closing_short : (length xs ≡ 4104 → ⊥) → closing r ≡ validate_of xs
  unfolding closing
  closing_short d =
      rw (ne_eqb r.count 4104 (λ e. d (omega arith))) (is_short bank_form xs (λ e. d (e ∙ size_is)))

  -- so of any bytes
  pub known_closing : closing r ≡ validate_of xs
  known_closing = elim (ℕ_discrete (length xs) 4104) [ yes e ↦ closing_whole e | no d ↦ closing_short d ]

  -- the end tells what the reader of whole banks tells
  pub known_ending : told_at_end (end_of r) ≡ channel_of xs
  unfolding end_of
  known_ending = rw (known_possible xs h k, known_closing) (at (validate_of xs) refl)
    where
      at : (v : Result (Unit {0}) Refusal) → validate_of xs ≡ v
          → told_at_end (result_map_both (λ u. record { receiver = closed r; channel = r.frame })
          (λ e. record { refusal = e; state = closed r }) v)
          ≡ result_and v (Ok (channel_byte xs))
      at (Ok u) e =
          let s = sound bank_form xs e in
          rw (k.framing, frame_channel xs (s.long ∙ size_is) s.right)
      at (Err x) e = refl

-- A LINE of which so much is known agrees with its bytes
told_agrees : (l : Line) → Told l → Agrees l l.bytes
told_agrees l t = record {
  reported = t.tells;
  ending = known_ending l.bytes (held l) t.known;
}

-- ANY CALLS, whose rests are given again or not: the line agrees with the bytes that were taken
pub any_calls : (patch : List ℕ) → length patch ≡ 128 → (pieces : List (List ℕ))
    → Agrees (called_all (begun patch) pieces) (called_all (begun patch) pieces).bytes
any_calls patch w pieces =
    told_agrees (called_all (begun patch) pieces) (calls_told (begun patch) pieces (begun_told patch w))

-- THE THEOREM: any list of pieces, empty ones too, with rests given again, agrees with all their bytes together
pub any_cut : (patch : List ℕ) → length patch ≡ 128 → (pieces : List (List ℕ))
    → Agrees (given_all (begun patch) pieces) (together pieces)
any_cut patch w pieces =
    let t = given_told (begun patch) pieces (begun_told patch w) in
    subst (Agrees (given_all (begun patch) pieces)) t.1 (told_agrees (given_all (begun patch) pieces) t.0)

-- so two ways to cut the same bytes agree, whatever stood in the two buffers
pub cuts_agree : (p q : List ℕ) → length p ≡ 128 → length q ≡ 128 → (one other : List (List ℕ))
    → together one ≡ together other
    → ((given_all (begun p) one).reports ≡ (given_all (begun q) other).reports)
    × (told_at_end (end_of (given_all (begun p) one).receiver)
    ≡ told_at_end (end_of (given_all (begun q) other).receiver))
cuts_agree p q u v one other e =
    let a = any_cut p u one in
    let b = any_cut q v other in (
      a.reported ∙ ap runs_of e ∙ sym b.reported,
      a.ending ∙ ap channel_of e ∙ sym b.ending,
    )

-- IN A SOUND DUMP the runs are the bank's own parts
own_part : (xs : List ℕ) (n : ℕ) → validate_of xs ≡ Ok tt → n ≤ 31 → Ok (slot_of xs n) ≡ part_of xs n
own_part xs n z l = sym (part_of_sound xs z n l)

-- one after the other
own_parts : (xs : List ℕ) (n : ℕ) → validate_of xs ≡ Ok tt → n ≤ 32 → runs_below xs n ≡ parts_below xs n
unfolding runs_below parts_below
own_parts xs zero z l = refl
own_parts xs (suc n) z l =
    rw (own_parts xs n z (omega arith), ← own_part xs n z (omega arith))

-- and there are 32
whole_runs : (xs : List ℕ) → length xs ≡ 4104 → runs_of xs ≡ runs_below xs 32
unfolding runs_of run_count
whole_runs xs e = rw e

-- so the reports are those parts
pub sound_parts : (patch : List ℕ) → length patch ≡ 128 → (pieces : List (List ℕ))
    → validate_of (together pieces) ≡ Ok tt → (given_all (begun patch) pieces).reports ≡ parts_below (together pieces) 32
sound_parts patch w pieces z =
    (any_cut patch w pieces).reported
    ∙ whole_runs (together pieces) ((sound bank_form (together pieces) z).long ∙ size_is)
    ∙ own_parts (together pieces) 32 z (omega arith)

-- A FINISHED READER stays as it is: it answers every piece by 9
pub ended_piece : (r : Receiver) (piece patch : List ℕ) → r.ended ≡ true
    → take_of r piece patch
    ≡ record { answer = refused ForeignState r; patch = patch }
unfolding take_of possible
ended_piece r piece patch e = rw e

-- and every further end
pub ended_again : (r : Receiver) → r.ended ≡ true → end_of r ≡ refused ForeignState r
unfolding end_of possible
ended_again r e = rw e

-- the end of a reader that has not ended ends it, whether the dump was sound or not
pub end_ends : (r : Receiver) → possible r ≡ true → (after_end (end_of r)).ended ≡ true
unfolding end_of
end_ends r e = rw e (at (closing r))
  where
    at : (v : Result (Unit {0}) Refusal)
        → (after_end (result_map_both (λ u. record { receiver = closed r; channel = r.frame })
        (λ e. record { refusal = e; state = closed r }) v)).ended
        ≡ true
    at (Ok u) = refl
    at (Err x) = refl

-- so no pieces after the end change the line
ended_call : (l : Line) (piece : List ℕ) → l.receiver.ended ≡ true → called l piece ≡ l
unfolding called told
ended_call l piece e =
    rw (ended_piece l.receiver piece l.patch e, append-nil l.reports, append-nil l.bytes)

-- however many they are
pub ended_stays : (l : Line) (pieces : List (List ℕ)) → l.receiver.ended ≡ true → called_all l pieces ≡ l
unfolding called_all
ended_stays l [] e = refl
ended_stays l (piece ∷ pieces) e =
    rw (ended_call l piece e) (ended_stays l pieces e)

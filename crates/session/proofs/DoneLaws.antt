-- DONE: what each return of `ends::on_done` leaves is the step. Assumes nothing.
--
--   done-refusal, done-change     what is refused, and what is done, by the code's tests
--   far-kept                      the far checksum, written over the one that is there
--   done-early ..                 a law a return
use mathlib.Core.Path.{◌≡◌, refl, sym, ap, ◌∙◌}
use mathlib.Core.Bool.{Bool, true, false, not, ◌&&◌, ◌||◌, cond}
use mathlib.Core.List.{List, [], ◌∷◌}
use Prim.Native.Nat.{ℕ, ◌+◌, ◌≤◌}
use native.Mathlib.Nat.{zero-add}
use native.Mathlib.Omega.{arith}
use lib.Dec.{eqb}
use lib.ListN.{length, take}
use lib.Seq.{take_all}
use borrow.Author.Tests.{not-true, not-false}
use Rattle.bucket.specs.Digits.{joined, packed}
use Rattle.bucket.specs.Lists.{over, part}
use Rattle.bucket.proofs.OverLaws.{over-length, part_length}
use Rattle.bucket.proofs.TestLaws.{test_refused, test_granted}
use Rattle.filter.specs.declared.answers.Refusal.TheVariants.{OutOfTurn, Checksum}
use Rattle.filter.specs.Answers.{number_of, first_of}
use Rattle.filter.specs.Table.{first_eight}
use Rattle.filter.proofs.SetLaws.{and_l, and_r}
use Rattle.message.specs.Layout.{Content, done}
use Rattle.message.specs.Writing.{layouts}
use Rattle.message.proofs.WholeLaws.{one-back, whole_length, part-below}
use Rattle.ledger.specs.declared.numbers.Answer.{Answer}
use Rattle.ledger.specs.Grid.{ACTIVE, PASSIVE, WAITING, FINISHED, entry}
use Rattle.ledger.specs.Session.{Change, waits, done_if, agrees, tests, refusal, change}
use Rattle.ledger.specs.Memory.{decode, mark_of, flag_of}
use Rattle.ledger.specs.Calls.{Given, table_of, session_of, step_on}
use Rattle.ledger.proofs.CallLaws.{implies_unless}
use Rattle.ledger.proofs.GivenLaws.{given-count, given-demanded, given-few, given-rooms, same-records, same-marks}
use Rattle.ledger.proofs.GridLaws.{admitted_other}
use Rattle.ledger.proofs.LaidLaws.{laid_marks}
use Rattle.ledger.proofs.Sound.{Sound}
use Rattle.form.specs.Answers.{aborted, changed}
use Rattle.session.specs.Steps.{Unmet}
use Rattle.session.proofs.CheckBytes.{check_in, check-made, sum_number}
use Rattle.session.proofs.PutInLaws.{over-again}
use Rattle.session.proofs.TurnLaws.{session_in, ledger_in, leaves, refusal_in, change_in, sent_only, nothing-sent, check-given, given-done, given-long, halted_tie, change_tie}

module _ (G : Given) (s : Sound G) (timely : entry G.numbers.state 6 ≡ true) (n : ℕ) (count : Unmet n G) where
  -- the checksum that came, and ours
  abbrev far : List ℕ
  far = part 4 64 G.message

  abbrev said : Content
  said = done (joined 8 far)

  abbrev check : ℕ
  check = check_in G.table G.numbers.demanded G.records G.marks

  -- our own DONE has not gone; a demand is unmet
  abbrev is_early : Bool
  is_early = eqb G.numbers.state ACTIVE && not (eqb G.numbers.done 1)

  abbrev is_passive : Bool
  is_passive = eqb G.numbers.state PASSIVE

  abbrev is_unmet : Bool
  is_unmet = is_passive && not (eqb n 0)

  done-refusal : {w v k : Bool} → is_early ≡ w → is_unmet ≡ v → eqb (joined 8 far) check ≡ k
      → refusal_in G said ≡ number_of (first_of ((OutOfTurn, true) ∷ (OutOfTurn, not w) ∷ (Checksum, v || k) ∷ []))
  unfolding refusal tests waits agrees session_of decode
  done-refusal early unmet same = λ i.
      number_of (first_of (
      (OutOfTurn, (admitted_other (session_in G) said refl ∙ timely) i)
      ∷ (OutOfTurn, (implies_unless (eqb G.numbers.state ACTIVE) (eqb G.numbers.done 1) ∙ ap not early) i)
      ∷ (Checksum, (ap (λ (b : Bool). is_passive && not b) (sym count) ∙ unmet) i || (ap (eqb (joined 8 far)) (check-given G s) ∙ same) i)
      ∷ []))

  -- in Passive Decoding; no demand is unmet
  abbrev is_done : Bool → Bool → ℕ → Change
  is_done p u x = record {
    state = cond (p && not u) WAITING FINISHED;
    ledger = done_if (p && u) (ledger_in G);
    far = cond (p && not u) (joined 8 far) (session_in G).far;
    sent = cond (p && u) (done x ∷ []) [];
    due = [];
  }

  done-change : {p u : Bool} → is_passive ≡ p → eqb n 0 ≡ u → change_in G said ≡ is_done p u check
  unfolding change waits session_of
  done-change passive none = λ i. is_done (passive i) ((sym count ∙ none) i) (check-given G s i)

  far-kept : 68 ≤ length G.message
      → over 262144 (packed 512 (joined 8 far ∷ [])) (over 0 (packed 512 (ledger_in G).demanded) G.records) ≡ over 262144 far G.records
  far-kept room =
      ap (λ (l : List ℕ). over 262144 l front) one
      ∙ sym (over-again 262144 far was front (omega (arith, long, whole_length 64 ((session_in G).far ∷ []))) (omega (arith, long, same, given-rooms G s)))
      ∙ ap (over 262144 far) (same-records G s)
    where
      was : List ℕ
      was = packed 512 ((session_in G).far ∷ [])

      front : List ℕ
      front = over 0 (packed 512 (ledger_in G).demanded) G.records

      long : length far ≡ 64
      long = part_length 4 G.message 64 room

      whole : take 64 far ≡ far
      whole = take_all 64 far (omega (arith, long))

      one : packed 512 (joined 8 far ∷ []) ≡ far
      one =
          ap (λ (l : List ℕ). packed 512 (joined 8 l ∷ [])) (sym whole)
          ∙ one-back 64 0 far (part-below 4 64 G.message s.message-bytes) (omega (arith, long)) ∙ whole

      same : length front ≡ length G.records
      same =
          over-length 0 G.records (packed 512 (ledger_in G).demanded)
          (omega (arith, whole_length 64 (ledger_in G).demanded, ap length (given-demanded G s), given-count G s, given-few G s, given-rooms G s))

  -- marks are the ledger's, and DONE has none
  marks-kept : (b : Bool) → laid_marks first_eight (table_of G) (done_if b (ledger_in G)) G.marks ≡ G.marks
  unfolding flag_of mark_of
  marks-kept b = same-marks G s

  -- ---- the returns

  pub done-early : is_early ≡ true → leaves G (aborted 5 G.numbers) G.records G.marks G.out ≡ step_on first_eight said G
  done-early e = halted_tie G s said 5 refl refl (done-refusal e refl refl)

  module _ (late : is_early ≡ false) where
    -- a demand is unmet: the checksum is kept for the last of them
    pub done-waits : {r : Answer} {R' : List ℕ} → 68 ≤ length G.message → is_unmet ≡ true → R' ≡ over 262144 far G.records
        → r ≡ changed G.numbers WAITING G.numbers.done G.numbers.demanded 0 0 → leaves G r R' G.marks G.out ≡ step_on first_eight said G
    unfolding layouts
    done-waits room e kept is =
        rw (is, kept)
        (change_tie G s said refl (is_done true false check) G.numbers.done G.numbers.demanded (over 262144 far G.records) G.marks G.out
        (record { inquired = refl; went = given-done G s; count = given-long G s; records = far-kept room; marks = marks-kept false; out = nothing-sent G.out })
        (done-refusal late e refl) (done-change (and_l is_passive (not (eqb n 0)) e) (not-true (eqb n 0) (and_r is_passive (not (eqb n 0)) e))))

    -- none is: the checksum is made, and compared
    module _ (met : is_unmet ≡ false) (acc : List ℕ) (made : acc ≡ packed 512 (check ∷ []))
        {same : Bool} (compared : same ≡ eqb (joined 8 far) (joined 8 (take 64 acc))) where
      number : joined 8 (take 64 acc) ≡ check
      number = sum_number check acc (check-made G.table G.numbers.demanded G.records G.marks acc made)

      is_same : same ≡ eqb (joined 8 far) check
      is_same = compared ∙ ap (eqb (joined 8 far)) number

      pub done_differs : not same ≡ true → leaves G (aborted 8 G.numbers) G.records G.marks G.out ≡ step_on first_eight said G
      done_differs e = halted_tie G s said 8 refl refl (done-refusal late met (test_refused is_same e))

      module _ (equal : not same ≡ false) where
        pub done_answers : {r : Answer} {sent : ℕ} {out' : List ℕ} → is_passive ≡ true
            → (sent ≡ 0 + length (layouts (done (joined 8 (take 64 acc)) ∷ []))) × (out' ≡ over 0 (layouts (done (joined 8 (take 64 acc)) ∷ [])) G.out)
            → r ≡ changed G.numbers FINISHED 1 G.numbers.demanded sent 0 → leaves G r G.records G.marks out' ≡ step_on first_eight said G
        done_answers e wrote is =
            rw (is, wrote.0, wrote.1, number, zero-add (length (layouts (done check ∷ []))))
            (change_tie G s said refl (is_done true true check) 1 G.numbers.demanded G.records G.marks (over 0 (layouts (done check ∷ [])) G.out)
            (record { inquired = refl; went = refl; count = given-long G s; records = same-records G s; marks = marks-kept true; out = sent_only (done check ∷ []) G.out })
            (done-refusal late met (test_granted is_same equal)) (done-change e (not-false (eqb n 0) (sym (ap (λ (b : Bool). b && not (eqb n 0)) e) ∙ met))))

        pub done-ends : {r : Answer} → is_passive ≡ false → r ≡ changed G.numbers FINISHED G.numbers.done G.numbers.demanded 0 0
            → leaves G r G.records G.marks G.out ≡ step_on first_eight said G
        unfolding layouts
        done-ends e is =
            rw is (change_tie G s said refl (is_done false (eqb n 0) check) G.numbers.done G.numbers.demanded G.records G.marks G.out
            (record { inquired = refl; went = given-done G s; count = given-long G s; records = same-records G s; marks = marks-kept false; out = nothing-sent G.out })
            (done-refusal late met (test_granted is_same equal)) (done-change e refl))

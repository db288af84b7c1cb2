-- ELEMENT: what each return of `ends::on_element` and `ends::last_element` leaves is the step. Assumes nothing.
--
--   element-wanted                     the place found is that of an unmet demand
--   last_now, says_now                 the last one, and whether our DONE goes, by the code's tests
--   element-refusal, element-change    what is refused, and what is done
--   element_unknown ..                 a law a return
use mathlib.Core.Path.{◌≡◌, refl, sym, ap, ap₂, ◌∙◌}
use mathlib.Core.Bool.{Bool, true, false, not, ◌&&◌, ◌||◌, cond, true≢false}
use mathlib.Core.List.{List, [], ◌∷◌}
use Prim.Native.Nat.{ℕ, ◌+◌, ◌≤◌, ◌<◌}
use native.Mathlib.Nat.{zero-add}
use lib.Bits.{bit_xor}
use lib.Dec.{eqb}
use lib.ListN.{length, set, take}
use borrow.Author.Tests.{eqb-true}
use Rattle.bucket.specs.Digits.{joined}
use Rattle.bucket.specs.Lists.{elem, over, part}
use Rattle.filter.specs.declared.answers.Refusal.TheVariants.{OutOfTurn, Breach, Checksum}
use Rattle.filter.specs.Answers.{number_of, first_of}
use Rattle.filter.specs.Sets.{implies}
use Rattle.filter.specs.Table.{first_eight}
use Rattle.message.specs.Layout.{element, done}
use Rattle.message.specs.Writing.{layouts}
use Rattle.ledger.specs.declared.numbers.Answer.{Answer}
use Rattle.ledger.specs.Grid.{ACTIVE, WAITING, FINISHED, entry}
use Rattle.ledger.specs.Session.{Change, unmet, done_if, checksum, all_came, agrees, last_one, says_done, tests, refusal, change}
use Rattle.ledger.specs.Memory.{mark_of, flag_of}
use Rattle.ledger.specs.Calls.{Given, table_of, hash_given, session_of, step_on}
use Rattle.ledger.proofs.CallLaws.{implies_unless}
use Rattle.ledger.proofs.GivenLaws.{given-books, given-rooms, given-demanded, same-records, same-marks}
use Rattle.ledger.proofs.GridLaws.{admitted_other}
use Rattle.ledger.proofs.LaidLaws.{laid_marks}
use Rattle.ledger.proofs.Sound.{Sound}
use Rattle.form.specs.Answers.{aborted, changed}
use Rattle.session.specs.Moves.{place_of_hash, is_unmet_at, unmet_at}
use Rattle.session.specs.Ready.{Sum}
use Rattle.session.specs.Steps.{gained_in, Wanted, LastUnmet, LastCame}
use Rattle.session.proofs.CheckBytes.{check_in, sum_number}
use Rattle.session.proofs.CheckLaws.{check-element}
use Rattle.session.proofs.PlaceLaws.{unmet-found, unmet_missed}
use Rattle.session.proofs.PlaceTie.{unmet_test, gain_set}
use Rattle.session.proofs.TurnLaws.{session_in, ledger_in, demanded_in, leaves, refusal_in, change_in, sent_only, nothing-sent, given_ordered, check-given, given-done, given-long, halted_tie, change_tie}

-- a test that counts where the first one passes
only_where : (n : ℕ) (x y : Bool) → (n ≡ 2 → x ≡ y) → eqb n 2 && x ≡ eqb n 2 && y
only_where n x y h = go (eqb n 2) refl
  where
    go : (b : Bool) → eqb n 2 ≡ b → b && x ≡ b && y
    go true e = h (eqb-true n 2 e)
    go false e = refl

second_fails : (a b : Bool) → a || b ≡ false → b ≡ false
second_fails true b e = absurd (true≢false e)
second_fails false b e = e

module _ (G : Given) (s : Sound G) where
  abbrev place : ℕ
  place = place_of_hash first_eight (table_of G) (demanded_in G) (hash_given G)

  -- the checksums: that which came, and ours with the element
  abbrev far : ℕ
  far = joined 8 (part 262144 64 G.records)

  abbrev check : ℕ
  check = bit_xor (check_in G.table G.numbers.demanded G.records G.marks) (hash_given G)

  -- ---- the tests

  -- the code's own, by its counts: the last element of all, and the last inquired one
  abbrev is_last : ℕ → Bool
  is_last n = eqb G.numbers.state WAITING && eqb n 1

  abbrev is_all : ℕ → Bool
  is_all k = eqb G.numbers.state ACTIVE && eqb (k + 1) G.numbers.inquired

  unmet-place : is_unmet_at G.marks place ≡ elem (hash_given G) (unmet (ledger_in G))
  unmet-place =
      ap₂ (λ (m k : List ℕ). is_unmet_at m (place_of_hash first_eight (table_of G) k (hash_given G))) (sym (same-marks G s)) (sym (given-demanded G s))
      ∙ unmet_test first_eight (table_of G) (ledger_in G) (given_ordered G s) G.marks (given-rooms G s).1 (hash_given G)

  pub element-wanted : {p : ℕ} → p ≡ unmet_at G.marks place → p < 8192 → Wanted G × (p ≡ place)
  element-wanted found l = let (u, at) = unmet-found G.marks place found l in (sym unmet-place ∙ u, at)

  module _ (u : Wanted G) (n : ℕ) (count : LastUnmet n G) where
    pub last_now : last_one (session_in G) (gained_in G) ≡ is_last n
    unfolding last_one session_of
    last_now = ap (λ (b : Bool). eqb G.numbers.state WAITING && b) (sym (count u))

    pub says_now : (k : ℕ) → LastCame k G → says_done first_eight (table_of G) (session_in G) (gained_in G) ≡ is_all k || is_last n
    unfolding says_done session_of
    says_now k all =
        ap₂ ◌||◌ (only_where G.numbers.state (all_came first_eight (table_of G) (gained_in G)) (eqb (k + 1) G.numbers.inquired) (λ e. sym (all u e))) last_now

  -- ---- the returns

  module _ (timely : entry G.numbers.state 5 ≡ true) (bytes : List ℕ) where
    element-refusal : {b k : Bool} → elem (hash_given G) (unmet (ledger_in G)) ≡ b
        → implies (last_one (session_in G) (gained_in G)) (agrees first_eight (table_of G) (session_in G).far (gained_in G)) ≡ k
        → refusal_in G (element bytes) ≡ number_of (first_of ((OutOfTurn, true) ∷ (Breach, b) ∷ (Checksum, k) ∷ []))
    unfolding refusal tests session_of
    element-refusal known same = λ i.
        number_of (first_of ((OutOfTurn, (admitted_other (session_in G) (element bytes) refl ∙ timely) i) ∷ (Breach, known i) ∷ (Checksum, same i) ∷ []))

    -- a hash that was not demanded, or was met
    pub element_unknown : {p : ℕ} → p ≡ unmet_at G.marks place → 8192 ≤ p
        → leaves G (aborted 7 G.numbers) G.records G.marks G.out ≡ step_on first_eight (element bytes) G
    element_unknown found l =
        halted_tie G s (element bytes) 7 refl refl (element-refusal (sym unmet-place ∙ unmet_missed G.marks place found l) refl)

    module _ (u : Wanted G) where
      check_now : checksum first_eight (table_of G) (gained_in G) ≡ check
      check_now = check-element first_eight (table_of G) (ledger_in G) (given-books G s) (hash_given G) u ∙ ap (λ (x : ℕ). bit_xor x (hash_given G)) (check-given G s)

      marks_now : (d : Bool) → laid_marks first_eight (table_of G) (done_if d (gained_in G)) G.marks ≡ set G.marks place 8
      unfolding flag_of mark_of
      marks_now d =
          sym (gain_set first_eight (table_of G) (ledger_in G) (given_ordered G s) G.marks (given-rooms G s).1 (hash_given G) u)
          ∙ ap₂ (λ (m k : List ℕ). set m (place_of_hash first_eight (table_of G) k (hash_given G)) 8) (same-marks G s) (given-demanded G s)

      -- the last one; our DONE goes
      abbrev is_gained : Bool → Bool → ℕ → Change
      is_gained last says x = record {
        state = cond last FINISHED G.numbers.state;
        ledger = done_if says (gained_in G);
        far = (session_in G).far;
        sent = cond says (done x ∷ []) [];
        due = [];
      }

      element-change : {last says : Bool} → last_one (session_in G) (gained_in G) ≡ last → says_done first_eight (table_of G) (session_in G) (gained_in G) ≡ says
          → change_in G (element bytes) ≡ is_gained last says check
      unfolding change session_of
      element-change last says = λ i. is_gained (last i) (says i) (check_now i)

      pub element_quiet : {p : ℕ} {r : Answer} → p ≡ place → (n k : ℕ) → LastUnmet n G → LastCame k G → is_all k || is_last n ≡ false
          → r ≡ changed G.numbers G.numbers.state G.numbers.done G.numbers.demanded 0 0
          → leaves G r G.records (set G.marks p 8) G.out ≡ step_on first_eight (element bytes) G
      unfolding layouts
      element_quiet at n k count all e is =
          let other = last_now u n count ∙ second_fails (is_all k) (is_last n) e in
          rw (is, at)
          (change_tie G s (element bytes) refl (is_gained false false check) G.numbers.done G.numbers.demanded
          G.records (set G.marks place 8) G.out
          (record { inquired = refl; went = given-done G s; count = given-long G s; records = same-records G s; marks = marks_now false; out = nothing-sent G.out })
          (element-refusal u (ap (λ (b : Bool). implies b (agrees first_eight (table_of G) (session_in G).far (gained_in G))) other))
          (element-change other (says_now u n count k all ∙ e)))

      -- our DONE goes: the checksum is made, and that of the last one compared
      module _ {last : Bool} (ends : last_one (session_in G) (gained_in G) ≡ last) (acc : List ℕ) (sum : Sum check acc)
          {same : Bool} (compared : same ≡ eqb far (joined 8 (take 64 acc))) where
        agrees_now : implies (last_one (session_in G) (gained_in G)) (agrees first_eight (table_of G) (session_in G).far (gained_in G)) ≡ not (last && not same)
        unfolding agrees session_of
        agrees_now = ap₂ implies ends (ap (eqb far) (check_now ∙ sym (sum_number check acc sum)) ∙ sym compared) ∙ implies_unless last same

        pub last_differs : last && not same ≡ true → leaves G (aborted 8 G.numbers) G.records G.marks G.out ≡ step_on first_eight (element bytes) G
        last_differs e = halted_tie G s (element bytes) 8 refl refl (element-refusal u (agrees_now ∙ ap not e))

        pub last_sends : {p sent next : ℕ} {r : Answer} {out' : List ℕ} → last && not same ≡ false → p ≡ place
            → says_done first_eight (table_of G) (session_in G) (gained_in G) ≡ true
            → (sent ≡ 0 + length (layouts (done (joined 8 (take 64 acc)) ∷ []))) × (out' ≡ over 0 (layouts (done (joined 8 (take 64 acc)) ∷ [])) G.out)
            → next ≡ cond last FINISHED G.numbers.state → r ≡ changed G.numbers next 1 G.numbers.demanded sent 0
            → leaves G r G.records (set G.marks p 8) out' ≡ step_on first_eight (element bytes) G
        last_sends e at says wrote goes is =
            rw (is, goes, at, wrote.0, wrote.1, sum_number check acc sum, zero-add (length (layouts (done check ∷ []))))
            (change_tie G s (element bytes) refl (is_gained last true check) 1 G.numbers.demanded
            G.records (set G.marks place 8) (over 0 (layouts (done check ∷ [])) G.out)
            (record { inquired = refl; went = refl; count = given-long G s; records = same-records G s; marks = marks_now true; out = sent_only (done check ∷ []) G.out })
            (element-refusal u (agrees_now ∙ ap not e)) (element-change ends says))

-- Why Finish Closing could go (document 02, Req 04). Document 01 has a state 4, to which a DONE in Active Decoding leads if it finds a demand unmet.
-- No DONE does. A peer's DONE in 2 is refused before ours went. Ours goes once every inquired element is held. What is demanded in 2 was inquired.
-- So by then no demand is unmet (ledger's none-unmet).
--
--   old_admitted, old_last, old_waits, old_tests, old_change, old_form   document 01 with its state 4, by the lines in which it differs from ledger
--   old_refusal, old_act, old_step, old_early, old_on, old_call          what is made of these, as ledger makes its own
--   step_same       on every session in form its step is ledger's
--   call_same       on every good form its call is ledger's, for any bytes as message
--   never_closing   from either start, over any sequence of its calls, state 4 is never entered
--
-- Assumes nothing.
use mathlib.Core.Path.{◌≡◌, refl, sym, ap, subst, ◌∙◌}
use mathlib.Core.Logic.{◌≢◌, ◌⊎◌, inl, inr}
use mathlib.Core.Bool.{Bool, true, false, not, ◌&&◌, ◌||◌, cond, and-false}
use mathlib.Core.List.{List, [], ◌∷◌}
use Prim.Native.Nat.{ℕ, ◌^◌, ◌<◌}
use lib.Dec.{eqb}
use lib.ListN.{get_or}
use borrow.Author.Tests.{ne_eqb, eqb-true}
use Rattle.std.proofs.Common.{Option, Some, None}
use Rattle.bucket.specs.Digits.{Below}
use Rattle.bucket.specs.Lists.{elem}
use Rattle.std.specs.Prelude.{Option}
use Rattle.filter.specs.declared.answers.Refusal.{Refusal}
use Rattle.filter.specs.declared.answers.Refusal.TheVariants.{Room, OutOfTurn, Breach, Checksum, Malformed}
use Rattle.filter.specs.Answers.{refusal_number, number_of, first_of}
use Rattle.filter.specs.Sets.{is_nil, all, implies}
use Rattle.filter.proofs.ListLaws.{all_in, implies_of}
use Rattle.filter.proofs.SetLaws.{clash, or_cases, and_l}
use Rattle.message.specs.declared.kinds.Message.{Message}
use Rattle.message.specs.Layout.{Content, slice, inquiry, offer, demand, element, done}
use Rattle.message.specs.Reading.{content}
use Rattle.message.specs.Walking.{exactly_one}
use Rattle.ledger.specs.Grid.{ACTIVE, PASSIVE, WAITING, FINISHED, ABORTED, states, is_state, is_ended, kind_of, place_in, entry}
use Rattle.ledger.specs.Session.{Ledger, Session, Change, Outcome, «in», unmet, gaining, changed, answer, by_slice, admitted, acts, last_one, waits, agrees, tests, refusal, on_slice, change, act, refused, step}
use Rattle.ledger.specs.Calls.{Given, Left, given, in_state, table_of, hash_given, session_of, good_form, has_rooms, early, unchanged, ended, went, step_on, step_said, step_call}
use Rattle.ledger.proofs.BookLaws.{Form}
use Rattle.ledger.proofs.FaultLaws.{Passed, passed}
use Rattle.ledger.proofs.GridLaws.{admitted_other}
use Rattle.ledger.proofs.Lawful.{none-unmet}
use Rattle.union.proofs.CallGiven.{given-state, given-form, rooms_of_lem}
use Rattle.union.proofs.HandedBack.{back}
use Rattle.union.proofs.Sequences.{CallsOf, Calls, receiver, sender, next, standing}

-- ---- document 01, with its state 4

abbrev pub CLOSING : ℕ
CLOSING = 4

-- its row of the grid: ELEMENT alone
unfoldable pub old_admitted : Session → Content → Bool
old_admitted s c = cond («in» s CLOSING) (get_or (false ∷ false ∷ false ∷ false ∷ false ∷ true ∷ false ∷ []) (kind_of c) false) (admitted s c)

-- "In 4 and 5 the last ELEMENT compares, in 5 also sends DONE. Equal: 6."
unfoldable pub old_last : Session → Ledger → Bool
old_last s L = («in» s CLOSING || «in» s WAITING) && is_nil (unmet L)

-- DONE: "then 4 if a demand is unmet, else the checksum is compared. DONE in 3: 5 if a demand is unmet, else compared, DONE sent."
unfoldable pub old_waits : Session → Bool
old_waits s = not (is_nil (unmet s.ledger))

-- what is said of ELEMENT, of DONE with its checksum, and of every other message
unfoldable pub by_ending : {A : Type 0} → Content → A → (ℕ → A) → A → A
by_ending (element bytes) x y a = x
by_ending (done check) x y a = y check
by_ending (slice size offset salt width ids hashes counts) x y a = a
by_ending (inquiry salt ids) x y a = a
by_ending (offer hashes) x y a = a
by_ending (demand hashes) x y a = a

module _ (derive : ℕ → ℕ) (t : List ℕ) (h : ℕ) (s : Session) (c : Content) where
  -- with an ELEMENT gained
  abbrev L : Ledger
  L = gaining h s.ledger

  -- "DONE in 2: only after our own was sent"
  unfoldable pub old_tests : List (Refusal × Bool)
  old_tests =
      by_ending c
      ((Breach, elem h (unmet s.ledger)) ∷ (Checksum, implies (old_last s L) (agrees derive t s.far L)) ∷ [])
      (λ check. (OutOfTurn, implies («in» s ACTIVE) s.ledger.done_went) ∷ (Checksum, old_waits s || agrees derive t check s.ledger) ∷ [])
      (tests derive t h s c)

  -- what is recorded and sent is as in ledger: neither a DONE in 2 nor an ELEMENT in 4 makes DONE due
  abbrev leading : ℕ → ℕ → Change
  leading q far = let ch = change derive t h s c in record { state = q; ledger = ch.ledger; far = far; sent = ch.sent; due = ch.due }

  unfoldable pub old_change : Change
  old_change =
      by_ending c
      (leading (cond (old_last s L) FINISHED s.state) s.far)
      (λ check. leading (cond (old_waits s) (cond («in» s ACTIVE) CLOSING WAITING) FINISHED) (cond (old_waits s) check s.far))
      (change derive t h s c)

  unfoldable pub old_refusal : ℕ
  old_refusal = number_of (first_of ((OutOfTurn, old_admitted s c) ∷ old_tests))

  unfoldable pub old_act : Outcome
  old_act = by_slice c (λ size offset salt width. on_slice derive t s c size offset salt width) (changed s old_change)

  unfoldable pub old_step : Outcome
  old_step = cond (acts old_refusal) old_act (answer (refused derive t old_refusal s c) [])

module _ (derive : ℕ → ℕ) where
  -- the form with 4 as a state too: it asks nothing of 4 or 5 alone, so in 4 it is that of the same in 5
  unfoldable pub old_form : Given → Bool
  old_form G =
      good_form derive
      (cond (eqb G.numbers.state CLOSING)
      (given (in_state WAITING G.numbers) G.table G.records G.marks G.inquired G.columns G.ours G.theirs G.hash G.message G.out) G)

  unfoldable pub old_early : Given → Option Refusal
  old_early G = first_of ((Refusal.Form, old_form G) ∷ (Room, has_rooms G) ∷ (OutOfTurn, not (is_ended G.numbers.state)) ∷ [])

  unfoldable pub old_on : Content → Given → Left
  old_on c G =
      let s = session_of derive G in
      let t = table_of G in
      let n = old_refusal derive t (hash_given G) s c in
      cond (acts n) (went derive n (old_act derive t (hash_given G) s c) G) (ended n (refused derive t n s c) G)

  abbrev pub old_said : Option Message → Given → Left
  old_said (Some m) G = old_on (content m G.message) G
  old_said None G = unchanged (refusal_number Malformed) ABORTED G

  unfoldable pub old_call : Given → Left
  old_call G =
      let n = number_of (old_early G) in
      cond (eqb n 0) (old_said (exactly_one G.message) G) (unchanged n G.numbers.state G)

-- ---- on a session in form its step is ledger's

-- 4 is no state's number
not_closing : (q : ℕ) → is_state q ≡ true → q ≢ CLOSING
unfolding elem
not_closing q e z = clash (subst (λ (p : ℕ). is_state p ≡ true) z e) refl

-- two ways that agree where a test holds, and end alike where it does not
where_so : {A : Type 0} (b : Bool) {x y : A} (z : A) → (b ≡ true → x ≡ y) → cond b x z ≡ cond b y z
where_so true z e = e refl
where_so false z e = refl

module _ (derive : ℕ → ℕ) (t : List ℕ) (h : ℕ) (s : Session) (f : Form derive t s) where
  elsewhere : «in» s CLOSING ≡ false
  elsewhere = ne_eqb s.state CLOSING (not_closing s.state f.state)

  -- DONE comes in Active and in Passive Decoding; in the first, once ours went, no demand is unmet: here state 4 goes
  waits-same : (check : ℕ) → admitted s (done check) ≡ true → implies («in» s ACTIVE) s.ledger.done_went ≡ true → old_waits s ≡ waits s
  unfolding old_waits waits all entry place_in
  waits-same check ad timely =
      go (or_cases («in» s ACTIVE) («in» s PASSIVE)
      (implies_of (entry s.state 6) _ (all_in (λ q. implies (entry q 6) (eqb q ACTIVE || eqb q PASSIVE)) states refl s.state f.state)
      (sym (admitted_other s (done check) refl) ∙ ad)))
    where
      go : («in» s ACTIVE ≡ true) ⊎ («in» s PASSIVE ≡ true) → not (is_nil (unmet s.ledger)) ≡ «in» s PASSIVE && not (is_nil (unmet s.ledger))
      go (inl a) = rw (none-unmet derive t s f a (implies_of («in» s ACTIVE) _ timely a)) (sym (and-false («in» s PASSIVE)))
      go (inr p) = rw p refl

  -- a DONE that waits leads to Finish Waiting
  leads : (b : Bool) → waits s ≡ b → cond b (cond («in» s ACTIVE) CLOSING WAITING) FINISHED ≡ cond b WAITING FINISHED
  unfolding waits
  leads true e = rw (eqb-true s.state PASSIVE (and_l («in» s PASSIVE) _ e)) refl
  leads false e = refl

  -- of what the grid admits the tests answer alike, and where they pass the change is the same
  alike : (c : Content) → admitted s c ≡ true
      → (first_of (old_tests derive t h s c) ≡ first_of (tests derive t h s c)) × (Passed (tests derive t h s c) → old_change derive t h s c ≡ change derive t h s c)
  unfolding old_tests old_change by_ending old_last last_one tests change
  alike (element bytes) ad = rw elsewhere (refl, λ p. refl)
  alike (done check) ad = (
    go (implies («in» s ACTIVE) s.ledger.done_went) refl,
    λ p. rw (waits-same check ad p.0, leads (waits s) refl) refl,
  )
    where
      go : (b : Bool) → implies («in» s ACTIVE) s.ledger.done_went ≡ b
          → first_of ((OutOfTurn, b) ∷ (Checksum, old_waits s || agrees derive t check s.ledger) ∷ [])
          ≡ first_of ((OutOfTurn, b) ∷ (Checksum, waits s || agrees derive t check s.ledger) ∷ [])
      go true e = rw (waits-same check ad e) refl
      go false e = refl
  alike (slice size offset salt width ids hashes counts) ad = (refl, λ p. refl)
  alike (inquiry salt ids) ad = (refl, λ p. refl)
  alike (offer hashes) ad = (refl, λ p. refl)
  alike (demand hashes) ad = (refl, λ p. refl)

  refusal-same : (c : Content) → old_refusal derive t h s c ≡ refusal derive t h s c
  unfolding old_refusal old_admitted refusal
  refusal-same c = rw elsewhere (go (admitted s c) refl)
    where
      go : (b : Bool) → admitted s c ≡ b
          → number_of (first_of ((OutOfTurn, b) ∷ old_tests derive t h s c)) ≡ number_of (first_of ((OutOfTurn, b) ∷ tests derive t h s c))
      go true e = ap number_of (alike c e).0
      go false e = refl

  act-same : (c : Content) → acts (refusal derive t h s c) ≡ true → old_act derive t h s c ≡ act derive t h s c
  unfolding old_act act
  act-same c e =
      let (ad, fs) = passed derive t h s c e in
      ap (λ (ch : Change). by_slice c (λ size offset salt width. on_slice derive t s c size offset salt width) (changed s ch)) ((alike c ad).1 fs)

  -- On every session in form, for any message: document 01's number is ledger's, and so is all that its step leaves and sends.
  pub step_same : (c : Content) → (old_refusal derive t h s c ≡ refusal derive t h s c) × (old_step derive t h s c ≡ step derive t h s c)
  unfolding old_step step
  step_same c = (
    refusal-same c,
    rw (refusal-same c) (where_so (acts (refusal derive t h s c)) (answer (refused derive t (refusal derive t h s c) s c) []) (act-same c)),
  )

-- ---- on a good form its call is ledger's, and so are sequences of its calls

module _ (derive : ℕ → ℕ) where
  on_same : (G : Given) (c : Content) → Form derive (table_of G) (session_of derive G) → old_on derive c G ≡ step_on derive c G
  unfolding old_on step_on
  on_same G c f =
      let n : ℕ = refusal derive (table_of G) (hash_given G) (session_of derive G) c in
      rw (refusal-same derive (table_of G) (hash_given G) (session_of derive G) f c)
      (where_so (acts n) (ended n (refused derive (table_of G) n (session_of derive G) c) G)
      (λ e. ap (λ (o : Outcome). went derive n o G) (act-same derive (table_of G) (hash_given G) (session_of derive G) f c e)))

  -- On every good form, with its rooms or without, for any bytes as message: answer, state, every slice and the bytes sent are those of ledger's call.
  pub call_same : (G : Given) → good_form derive G ≡ true → old_call derive G ≡ step_call derive G
  unfolding old_call old_early old_form step_call step_said early session_of
  call_same G form =
      let n : ℕ = number_of (early derive G) in
      rw (ne_eqb G.numbers.state CLOSING (not_closing G.numbers.state (given-state derive G form)))
      (where_so (eqb n 0) (unchanged n G.numbers.state G)
      (λ e. said (given-form derive G form (rooms_of_lem G (rooms (has_rooms G) refl e)).ledger) (exactly_one G.message)))
    where
      said : Form derive (table_of G) (session_of derive G) → (r : Option Message) → old_said derive r G ≡ step_said derive r G
      said f (Some m) = on_same G (content m G.message) f
      said f None = refl

      -- without its rooms both are refused with 2
      rooms : (b : Bool) → has_rooms G ≡ b → eqb (number_of (early derive G)) 0 ≡ true → b ≡ true
      rooms true r e = refl
      rooms false r e = absurd (clash e (unfold early in rw (form, r) refl))

module _ (derive : ℕ → ℕ) (bound : (h : ℕ) → h < 2 ^ 512 → derive h < 2 ^ 64) where
  -- a sequence of its calls is one of ledger's
  same_calls : {G : Given} → CallsOf derive (old_call derive) G → Calls derive G
  same_calls (receiver G e b) = receiver G e b
  same_calls (sender G size salt out e b) = sender G size salt out e b
  same_calls (next {G} calls bytes hash message out) =
      subst (λ (l : Left). Calls derive (back G l hash message out)) (sym (call_same derive G (standing derive bound (same_calls calls)).form))
      (next (same_calls calls) bytes hash message out)

  -- No call of ledger's is given state 4: a good form has none.
  pub calls_open : {G : Given} → Calls derive G → G.numbers.state ≢ CLOSING
  unfolding session_of
  calls_open {G} calls = not_closing G.numbers.state (given-state derive G (standing derive bound calls).form)

  -- From either start, over any sequence of document 01's calls, with any bytes as messages, none is given state 4 and none answers it.
  pub never_closing : {G : Given} → CallsOf derive (old_call derive) G
      → (G.numbers.state ≢ CLOSING) × (Below 8 G.message → (old_call derive G).answer.next.state ≢ CLOSING)
  never_closing calls = (calls_open (same_calls calls), λ bytes. calls_open (same_calls (next calls bytes [] [] [])))

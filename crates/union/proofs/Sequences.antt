-- Calls one after the other, from a start of either kind, with any bytes as messages: none is refused with 1.
--
--   Calls G        G is what a caller gives to a call of such a sequence; CallsOf: over what a call does (Closing has another call)
--   standing       it is in form
--   calls_refusal  no call of it is refused with 1
--
-- A caller keeps what a call leaves, and lends it again as it was left; message, hash and outgoing buffer are its own each time. Nothing is asked of
-- them, nor of the sizes of what is lent: a call without its rooms is refused with 2 and changes nothing. C gives the two premises for free: a message
-- is bytes, and the IDSUMs that were lent first are words of 64 bits.
-- Assumes nothing.
use mathlib.Core.Path.{◌≡◌, refl, ap, ◌∙◌}
use mathlib.Core.Logic.{◌≢◌}
use mathlib.Core.Bool.{Bool, true, false, cond}
use mathlib.Core.List.{List, [], ◌∷◌}
use Prim.Native.Nat.{ℕ, ◌^◌, ◌<◌}
use lib.Dec.{eqb}
use borrow.Author.Tests.{eq-eqb}
use Rattle.std.proofs.Common.{Option, Some, None}
use Rattle.bucket.specs.Digits.{Below}
use Rattle.filter.specs.declared.answers.Refusal.{Refusal}
use Rattle.filter.specs.declared.answers.Refusal.TheVariants.{OutOfTurn}
use Rattle.filter.specs.Answers.{refusal_number, number_of as refused_by, first_of}
use Rattle.filter.proofs.SetLaws.{clash}
use Rattle.message.specs.declared.kinds.Message.{Message}
use Rattle.message.specs.Layout.{Content, slice, inquiry, offer, demand, element, done}
use Rattle.message.specs.Walking.{exactly_one}
use Rattle.ledger.specs.Grid.{is_ended}
use Rattle.ledger.specs.Session.{Session, admitted, tests, refusal}
use Rattle.ledger.specs.Calls.{Given, Left, good_form, has_rooms, early, table_of, hash_given, session_of, step_call, start_receiver, start_sender}
use Rattle.union.proofs.CallGiven.{Lent}
use Rattle.union.proofs.CallKept.{form_call, ids_call}
use Rattle.union.proofs.Called.{said_in, number_of, call_number}
use Rattle.union.proofs.HandedBack.{back}
use Rattle.union.proofs.Starts.{begun_by, receiver-begins, sender-begins}

-- ---- a good form is not refused with 1

-- tests of which none answers 1
abbrev Lacks : List (Refusal × Bool) → Type 0
Lacks [] = Unit {0}
Lacks (f ∷ l) = (eqb (refusal_number f.0) 1 ≡ false) × Lacks l

first-lacks : (l : List (Refusal × Bool)) → Lacks l → eqb (refused_by (first_of l)) 1 ≡ false
first-lacks [] k = refl
first-lacks ((r, true) ∷ l) k = first-lacks l k.1
first-lacks ((r, false) ∷ l) k = k.0

module _ (derive : ℕ → ℕ) where
  tests_lack : (t : List ℕ) (h : ℕ) (s : Session) (c : Content) → Lacks (tests derive t h s c)
  unfolding tests
  tests_lack t h s (slice size offset salt width ids hashes counts) = (refl, (refl, (refl, (refl, tt))))
  tests_lack t h s (inquiry salt xs) = (refl, tt)
  tests_lack t h s (offer hs) = (refl, (refl, tt))
  tests_lack t h s (demand hs) = (refl, tt)
  tests_lack t h s (element bytes) = (refl, (refl, tt))
  tests_lack t h s (done check) = (refl, (refl, tt))

  number-lacks : (t : List ℕ) (h : ℕ) (s : Session) (c : Content) → eqb (refusal derive t h s c) 1 ≡ false
  unfolding refusal
  number-lacks t h s c = first-lacks ((OutOfTurn, admitted s c) ∷ tests derive t h s c) (refl, tests_lack t h s c)

  pub form-refusal : (G : Given) → good_form derive G ≡ true → (step_call derive G).answer.refusal ≢ 1
  unfolding step_call early
  form-refusal G form one = clash (eq-eqb (step_call derive G).answer.refusal 1 one) (go (has_rooms G) refl)
    where
      known : (x : Bool) (r : Option Message) → eqb (cond x 5 (number_of derive r G)) 1 ≡ false
      known true r = refl
      known false (Some m) = number-lacks (table_of G) (hash_given G) (session_of derive G) (said_in m G)
      known false None = refl

      go : (x : Bool) → has_rooms G ≡ x → eqb (step_call derive G).answer.refusal 1 ≡ false
      go false e = rw (form, e)
      go true e = ap (λ (n : ℕ). eqb n 1) (call_number derive G form e) ∙ known (is_ended G.numbers.state) (exactly_one G.message)

-- ---- sequences

pub data CallsOf (derive : ℕ → ℕ) (call : Given → Left) : Given → Type 0 where
  receiver : (G : Given) → (start_receiver derive G.table G.marks).answer.refusal ≡ 0 → Below 64 G.columns.idsums
      → CallsOf derive call (begun_by (start_receiver derive G.table G.marks) G)
  sender : (G : Given) (size salt : ℕ) (out : List ℕ) → (start_sender derive size salt G.table G.marks out).answer.refusal ≡ 0
      → Below 64 G.columns.idsums → CallsOf derive call (begun_by (start_sender derive size salt G.table G.marks out) G)
  next : {G : Given} → CallsOf derive call G → Below 8 G.message → (hash message out : List ℕ) → CallsOf derive call (back G (call G) hash message out)

abbrev pub Calls : (ℕ → ℕ) → Given → Type 0
Calls derive = CallsOf derive (step_call derive)

pub record Standing (derive : ℕ → ℕ) (G : Given) : Type 0 where
  pub form : good_form derive G ≡ true
  pub ids : Below 64 G.columns.idsums

module _ (derive : ℕ → ℕ) (bound : (h : ℕ) → h < 2 ^ 512 → derive h < 2 ^ 64) where
  pub standing : {G : Given} → Calls derive G → Standing derive G
  standing (receiver G e b) = record { form = receiver-begins derive G e; ids = b }
  standing (sender G size salt out e b) = record { form = sender-begins derive G size salt out e; ids = b }
  standing (next {G} calls bytes hash message out) =
      let k : Standing derive G = standing calls in
      let lent : Lent G = record { message = bytes; ids = k.ids } in
      record { form = form_call derive bound G k.form lent hash message out; ids = ids_call derive bound G k.form lent }

  pub calls_refusal : {G : Given} → Calls derive G → (step_call derive G).answer.refusal ≢ 1
  calls_refusal {G} calls = form-refusal derive G (standing calls).form

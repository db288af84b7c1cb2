-- What a call does is the definition's step, for any bytes that it is given as message: whoever cites this needs to know nothing of `step_call`.
--
--   heard G        what the definition does with the bytes: the step of what they say; bytes that are no message abort the session
--   Leaves         what a call leaves: a message that is acted on, or a refusal
--   call_leaves    a call whose tests passed leaves one of the two, and the outcome is what is heard
--   call_number    the number that it answers
--   heard-layout   of the layout of a message in range the definition's step of that message is heard
--   heard_either   what holds of every step and of an abort holds of what is heard
--   call_session   the session that a call leaves, handed back, is that after what is heard
--   call_answer    what it sends and hands out is what is heard
--
-- Assumes nothing.
use mathlib.Core.Path.{◌≡◌, refl, sym, ap, subst, ◌∙◌}
use mathlib.Core.Logic.{◌⊎◌, inl, inr}
use mathlib.Core.Bool.{Bool, true, false, ◌||◌, cond, true≢false}
use mathlib.Core.List.{List, [], ◌++◌}
use Prim.Native.Nat.{ℕ, ◌^◌, ◌<◌}
use lib.Dec.{eqb}
use lib.ListN.{length}
use lib.Pow.{pow_pos}
use Rattle.std.proofs.Common.{Option, Some, None}
use Rattle.bucket.specs.Digits.{groups, packed, Below}
use Rattle.bucket.specs.Lists.{over}
use Rattle.bucket.proofs.OverLaws.{over-nil}
use Rattle.message.specs.declared.kinds.Message.{Message}
use Rattle.message.specs.Layout.{Content, slice, inquiry, offer, demand, element, done, Good, layout}
use Rattle.message.specs.Reading.{content, head}
use Rattle.message.specs.Walking.{exactly_one}
use Rattle.message.specs.Writing.{layouts}
use Rattle.message.proofs.CompleteLaws.{complete}
use Rattle.message.proofs.SoundLaws.{Sound, sound}
use Rattle.ledger.specs.Grid.{FINISHED, ABORTED, is_ended}
use Rattle.ledger.specs.Session.{Session, Outcome, Change, answer, sliced, acts, stopped, refusal, swapped, decoded, change, act, halted, refused, step}
use Rattle.ledger.specs.Calls.{Given, Left, good_form, has_ledger_room, has_rooms, early, table_of, hash_given, session_of, unchanged, ended, went, step_said, step_on, step_call}
use Rattle.ledger.proofs.BookLaws.{Books, Form}
use Rattle.ledger.proofs.FaultLaws as Faults
use Rattle.ledger.proofs.FaultLaws.{Ended, by_kind, by_reading, by_step, refused-ended}
use Rattle.ledger.proofs.GridLaws.{ended-stopped}
use Rattle.ledger.proofs.Lawful.{check_in, lawful}
use Rattle.ledger.proofs.Theorems.{form-kept, refusal_buffers, ended_stays}
use Rattle.union.proofs.CallGiven.{given-good, given-form, roomy, Lent, table-short, given_narrow, given-far, rooms_of_lem}
use Rattle.union.proofs.HandedBack.{back, Roomy, handed_back, ended-back}
use Rattle.union.proofs.SentLaws.{Narrow, narrow_kept}

-- ---- what is heard

-- what the bytes say, read as m
abbrev pub said_in : Message → Given → Content
said_in m G = content m G.message

-- of what is read of the bytes
abbrev pub heard_of : (ℕ → ℕ) → Option Message → Given → Outcome
heard_of derive (Some m) G = step derive (table_of G) (hash_given G) (session_of derive G) (said_in m G)
heard_of derive None G = answer (halted derive (table_of G) (session_of derive G)) []

unfoldable pub heard : (ℕ → ℕ) → Given → Outcome
heard derive G = heard_of derive (exactly_one G.message) G

-- its number
abbrev pub number_of : (ℕ → ℕ) → Option Message → Given → ℕ
number_of derive (Some m) G = refusal derive (table_of G) (hash_given G) (session_of derive G) (said_in m G)
number_of derive None G = 4

-- what holds of every step and of an abort holds of what is heard
pub heard_either : (derive : ℕ → ℕ) (G : Given) → Below 8 G.message → (P : Outcome → Type 0)
    → ((c : Content) → Good c → P (step derive (table_of G) (hash_given G) (session_of derive G) c))
    → P (answer (halted derive (table_of G) (session_of derive G)) []) → P (heard derive G)
unfolding heard
heard_either derive G bytes P x y = go (exactly_one G.message) (sound G.message bytes)
  where
    go : (r : Option Message) → Sound G.message r → P (heard_of derive r G)
    go (Some m) k = x (said_in m G) k.good
    go None k = y

pub heard-layout : (derive : ℕ → ℕ) (G : Given) (c : Content) → Good c → G.message ≡ layout c
    → heard derive G ≡ step derive (table_of G) (hash_given G) (session_of derive G) c
unfolding heard
heard-layout derive G c g m =
    ap (λ (r : Option Message). heard_of derive r G) (ap exactly_one m ∙ (complete c g).read)
    ∙ ap (step derive (table_of G) (hash_given G) (session_of derive G)) (ap (content (head c)) m ∙ (complete c g).said)

-- ---- what a call leaves

-- a refusal aborts a session that has not ended
going-stopped : (q : ℕ) → is_ended q ≡ false → stopped q ≡ ABORTED
going-stopped q going = go (eqb q FINISHED) going
  where
    go : (b : Bool) → b || eqb q ABORTED ≡ false → cond b FINISHED ABORTED ≡ ABORTED
    go true e = absurd (true≢false e)
    go false e = refl

module _ (derive : ℕ → ℕ) (G : Given) where
  abbrev s : Session
  s = session_of derive G

  abbrev t : List ℕ
  t = table_of G

  abbrev number : Content → ℕ
  number c = refusal derive t (hash_given G) s c

  pub data Leaves (l : Left) (o : Outcome) : Type 0 where
    acted : (c : Content) → Good c → acts (number c) ≡ true → l ≡ went derive (number c) o G → o ≡ act derive t (hash_given G) s c → Leaves l o
    stopped_by : (n : ℕ) (u : Session) → Ended s u → l ≡ ended n u G → o ≡ answer u [] → Leaves l o

  -- the number that it answers
  pub on_number : (c : Content) → (step_on derive c G).answer.refusal ≡ number c
  unfolding step_on went
  on_number c = go (acts (number c))
    where
      go : (b : Bool)
          → (cond b (went derive (number c) (act derive t (hash_given G) s c) G) (ended (number c) (refused derive t (number c) s c) G)).answer.refusal
          ≡ number c
      go true = refl
      go false = refl

  halts : Ended s (halted derive t s)
  halts = record { state = refl; first = refl; size = refl; salt = refl; width = refl; swaps = refl; far = refl; ledger = refl }

  -- nothing but the state
  unchanged_halts : (n q : ℕ) → stopped G.numbers.state ≡ q → unchanged n q G ≡ ended n (halted derive t s) G
  unfolding session_of
  unchanged_halts n q e = sym (ap (λ (k : ℕ). unchanged n k G) e)

  on_leaves : (c : Content) → Good c → Leaves (step_on derive c G) (step derive t (hash_given G) s c)
  unfolding step_on step
  on_leaves c g = go (acts (number c)) refl
    where
      go : (b : Bool) → acts (number c) ≡ b
          → Leaves (cond b (went derive (number c) (act derive t (hash_given G) s c) G) (ended (number c) (refused derive t (number c) s c) G))
          (cond b (act derive t (hash_given G) s c) (answer (refused derive t (number c) s c) []))
      go true e = acted c g e refl refl
      go false e = stopped_by (number c) (refused derive t (number c) s c) (refused-ended derive t (number c) s c) refl refl

  -- a session that has ended
  ended-heard : is_ended s.state ≡ true → heard derive G ≡ answer (halted derive t s) []
  unfolding heard step
  ended-heard e = go (exactly_one G.message)
    where
      go : (r : Option Message) → heard_of derive r G ≡ answer (halted derive t s) []
      go (Some m) =
          let five : number (said_in m G) ≡ 5 = (ended_stays derive t (hash_given G) s (said_in m G) e).0 in
          rw five (ap (λ (u : Session). answer u []) (refusal_buffers derive t 5 s (said_in m G) refl))
      go None = refl

  -- 5 where the session has ended, 4 where the bytes are no message, and else the definition's
  pub call_number : good_form derive G ≡ true → has_rooms G ≡ true
      → (step_call derive G).answer.refusal ≡ cond (is_ended G.numbers.state) 5 (number_of derive (exactly_one G.message) G)
  unfolding step_call step_said early
  call_number form rooms = go (is_ended G.numbers.state) refl
    where
      said : (r : Option Message) → (step_said derive r G).answer.refusal ≡ number_of derive r G
      said (Some m) = on_number (said_in m G)
      said None = refl

      go : (b : Bool) → is_ended G.numbers.state ≡ b
          → (step_call derive G).answer.refusal ≡ cond (is_ended G.numbers.state) 5 (number_of derive (exactly_one G.message) G)
      go true e = rw (form, rooms, e)
      go false e = rw (form, rooms, e) (said (exactly_one G.message))

  module _ (form : good_form derive G ≡ true) (rooms : has_rooms G ≡ true) (bytes : Below 8 G.message) where
    pub call_leaves : Leaves (step_call derive G) (heard derive G)
    unfolding step_call step_said early heard session_of
    call_leaves = go (is_ended G.numbers.state) refl
      where
        said : is_ended G.numbers.state ≡ false → (r : Option Message) → Sound G.message r → Leaves (step_said derive r G) (heard_of derive r G)
        said going (Some m) k = on_leaves (said_in m G) k.good
        said going None k = stopped_by 4 (halted derive t s) halts (unchanged_halts 4 7 (going-stopped G.numbers.state going)) refl

        go : (b : Bool) → is_ended G.numbers.state ≡ b → Leaves (step_call derive G) (heard derive G)
        go true e =
            rw (form, rooms, e)
            (stopped_by 5 (halted derive t s) halts (unchanged_halts 5 G.numbers.state (ended-stopped G.numbers.state e)) (ended-heard e))
        go false e = rw (form, rooms, e) (said e (exactly_one G.message) (sound G.message bytes))

-- ---- the session after it

-- the far checksum is kept, or is that of a DONE
far-step : (derive : ℕ → ℕ) (t : List ℕ) (h : ℕ) (s : Session) (c : Content) → Form derive t s → Good c → s.far < 2 ^ 512
    → (step derive t h s c).session.far < 2 ^ 512
unfolding act decoded swapped sliced
far-step derive t h s c f g short =
    by_step derive t Short h s c
    (λ ad fs. by_kind Short c _ _
    (λ size offset salt width ids hashes counts q. by_reading derive t Short s c size offset salt width (λ whole yes. short) (λ whole no. short) short)
    (λ k. changed (change derive t h s c) (lawful derive t h s c k f ad fs).far))
    (subst (λ (x : ℕ). x < 2 ^ 512) (sym (refused-ended derive t (refusal derive t h s c) s c).far) short)
  where
    Short : Outcome → Type 0
    Short o = o.session.far < 2 ^ 512

    check : (c : Content) → Good c → check_in c < 2 ^ 512
    check (done x) g = g
    check (slice size offset salt width ids hashes counts) g = pow_pos 512
    check (inquiry salt xs) g = pow_pos 512
    check (offer hs) g = pow_pos 512
    check (demand hs) g = pow_pos 512
    check (element bytes) g = pow_pos 512

    changed : (ch : Change) → (ch.far ≡ s.far) ⊎ (ch.far ≡ check_in c) → ch.far < 2 ^ 512
    changed ch (inl e) = subst (λ (x : ℕ). x < 2 ^ 512) (sym e) short
    changed ch (inr e) = subst (λ (x : ℕ). x < 2 ^ 512) (sym e) (check c g)

-- what is answered of an outcome: the bytes of its messages, and of its hashes behind them
abbrev pub Answers : Given → Left → Outcome → Type 0
Answers G l o =
    (l.answer.sent ≡ length (layouts o.sent))
    × (l.answer.due ≡ length o.due)
    × (l.out ≡ over 0 (layouts o.sent ++ packed 512 o.due) G.out)

module _ (derive : ℕ → ℕ) (bound : (h : ℕ) → h < 2 ^ 512 → derive h < 2 ^ 64) (G : Given) (form : good_form derive G ≡ true) (rooms : has_rooms G ≡ true)
    (lent : Lent G) where
  room : has_ledger_room G ≡ true
  room = (rooms_of_lem G rooms).ledger

  -- a message that is acted on leaves a session in form, with its room
  module _ (c : Content) (g : Good c) (e : acts (refusal derive (table_of G) (hash_given G) (session_of derive G) c) ≡ true) where
    abbrev made : Outcome
    made = act derive (table_of G) (hash_given G) (session_of derive G) c

    pub acted-step : step derive (table_of G) (hash_given G) (session_of derive G) c ≡ made
    acted-step = Faults.acted derive (table_of G) (hash_given G) (session_of derive G) c e

    pub acted-form : Form derive (table_of G) made.session
    acted-form =
        subst (λ (o : Outcome). Form derive (table_of G) o.session) acted-step
        (form-kept derive (table_of G) (given-good derive G form) (hash_given G) (session_of derive G) c g (given-form derive G form room))

    pub acted-roomy : Roomy G made.session
    acted-roomy =
        roomy derive G form room made.session acted-form
        (subst (λ (o : Outcome). Narrow o.session) acted-step
        (narrow_kept derive bound (table_of G) (given-good derive G form) (table-short G) (hash_given G) (session_of derive G) c (given-form derive G form room)
        (given_narrow derive G lent) g))
        (subst (λ (o : Outcome). o.session.far < 2 ^ 512) acted-step
        (far-step derive (table_of G) (hash_given G) (session_of derive G) c (given-form derive G form room) g (given-far derive G form room)))

  -- what is handed back is the session after what is heard
  pub call_session : (hash bs out : List ℕ) → session_of derive (back G (step_call derive G) hash bs out) ≡ (heard derive G).session
  call_session hash bs out = go (step_call derive G) (heard derive G) (call_leaves derive G form rooms lent.message)
    where
      go : (l : Left) (o : Outcome) → Leaves derive G l o → session_of derive (back G l hash bs out) ≡ o.session
      go l o (acted c g e is made) =
          let n : ℕ = refusal derive (table_of G) (hash_given G) (session_of derive G) c in
          ap (λ (k : Left). session_of derive (back G k hash bs out)) is
          ∙ handed_back derive n o G hash bs out (subst (λ (p : Outcome). Roomy G p.session) (sym made) (acted-roomy c g e))
          (subst (λ (p : Outcome). Books derive (table_of G) p.session.ledger) (sym made) (acted-form c g e).books)
      go l o (stopped_by n u e is made) =
          ap (λ (k : Left). session_of derive (back G k hash bs out)) is ∙ ended-back derive n G u e hash bs out ∙ sym (ap (λ (p : Outcome). p.session) made)

  -- and what is sent is what is heard
  pub call_answer : Answers G (step_call derive G) (heard derive G)
  call_answer = go (step_call derive G) (heard derive G) (call_leaves derive G form rooms lent.message)
    where
      none : G.out ≡ over 0 (layouts [] ++ packed 512 []) G.out
      none = unfold layouts packed groups in sym (over-nil 0 G.out)

      go : (l : Left) (o : Outcome) → Leaves derive G l o → Answers G l o
      go l o (acted c g e is _) = subst (λ (k : Left). Answers G k o) (sym is) (unfold went in (refl, refl, refl))
      go l o (stopped_by n u e is made) =
          subst (λ (k : Left). Answers G k o) (sym is) (subst (Answers G (ended n u G)) (sym made) (unfold layouts in (refl, refl, none)))

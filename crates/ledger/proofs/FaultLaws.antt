-- What the tests say of a message that is acted on, what a refusal leaves, and the ways that a slice and a step may go.
--
--   Passed, passed        tests beside which nothing is acted on have held; Holds, none-refused: all have, so there is no refusal
--   fails                 a test of this number fails
--   by_kind, plain        a slice, and every other message
--   Ended, refused-ended  what a refusal never changes
--   by_reading            a complete reading, one that is not, and a slice that does not reach the end
--   by_step, acted        a message that is acted on, and one that is refused
--
-- Assumes nothing.
use mathlib.Core.Path.{◌≡◌, refl, sym, subst}
use mathlib.Core.Bool.{Bool, true, false, not, ◌&&◌, ◌||◌, cond, and-false}
use mathlib.Core.List.{List, [], ◌∷◌}
use Prim.Native.Nat.{ℕ, suc, ◌≤◌, ◌<◌}
use native.Mathlib.Omega.{arith}
use lib.Dec.{eqb}
use borrow.Author.Tests.{eq-eqb, leb-true, ltb-true}
use Rattle.filter.specs.declared.answers.Refusal.{Refusal}
use Rattle.filter.specs.declared.answers.Refusal.TheVariants.{OutOfTurn}
use Rattle.filter.specs.Answers.{refusal_number, number_of, first_of}
use Rattle.filter.specs.Calls.{Read}
use Rattle.message.specs.Layout.{Content, slice, inquiry, offer, demand, element, done, slice_good}
use Rattle.message.proofs.ReadLaws.{both}
use Rattle.message.proofs.ShapeLaws.{choose}
use Rattle.ledger.specs.Grid.{is_last}
use Rattle.ledger.specs.Session.{Session, Outcome, is_slice, by_slice, admitted, is_complete, sliced, answer, acts, clears, stopped, tests, read_of, refusal, swapped, decoded, on_slice, act, cleared, halted, refused, step}
use Rattle.filter.proofs.SetLaws.{clash}
use Rattle.ledger.proofs.GridLaws.{slice-kind}

-- ---- a message that is acted on

-- tests beside which nothing is acted on have held, up to one beside which the message is acted on
abbrev Unless : Bool → Type 0 → Type 0
Unless true A = Unit {0}
Unless false A = A

abbrev pub Passed : List (Refusal × Bool) → Type 0
Passed [] = Unit {0}
Passed (f ∷ l) = Unless (acts (refusal_number f.0)) ((f.1 ≡ true) × Passed l)

pub passes : (l : List (Refusal × Bool)) → acts (number_of (first_of l)) ≡ true → Passed l
passes [] e = tt
passes ((r, true) ∷ l) e = go (acts (refusal_number r)) (passes l e)
  where
    go : (b : Bool) → Passed l → Unless b ((true ≡ true) × Passed l)
    go true p = tt
    go false p = (refl, p)
passes ((r, false) ∷ l) e = subst (λ (b : Bool). Unless b ((false ≡ true) × Passed l)) (sym e) tt

-- every test holds: there is no refusal
abbrev pub Holds : List (Refusal × Bool) → Type 0
Holds [] = Unit {0}
Holds (f ∷ l) = (f.1 ≡ true) × Holds l

holds-none : (l : List (Refusal × Bool)) → Holds l → number_of (first_of l) ≡ 0
holds-none [] h = refl
holds-none (f ∷ l) h = rw h.0 (holds-none l h.1)

-- a test of this number fails
unfoldable pub fails : ℕ → List (Refusal × Bool) → Bool
fails n [] = false
fails n (f ∷ l) = (eqb (refusal_number f.0) n && not f.1) || fails n l

-- as it does where a message is refused by this number
first-fails : (n : ℕ) (l : List (Refusal × Bool)) → number_of (first_of l) ≡ suc n → fails (suc n) l ≡ true
unfolding fails
first-fails n [] e = absurd (omega arith)
first-fails n ((r, true) ∷ l) e = rw (and-false (eqb (refusal_number r) (suc n)), first-fails n l e)
first-fails n ((r, false) ∷ l) e = rw (eq-eqb (refusal_number r) (suc n) e)

-- what holds of a slice's way and of every other message's holds of what `by_slice` picks
pub by_kind : {A : Type 0} (P : A → Type 0) (c : Content) (f : (size offset salt width : ℕ) → A) (a : A)
    → ((size offset salt width : ℕ) (ids hashes counts : List ℕ) → c ≡ slice size offset salt width ids hashes counts → P (f size offset salt width))
    → (is_slice c ≡ false → P a) → P (by_slice c f a)
unfolding by_slice
by_kind P (slice size offset salt width ids hashes counts) f a x y = x size offset salt width ids hashes counts refl
by_kind P (inquiry salt xs) f a x y = y refl
by_kind P (offer hs) f a x y = y refl
by_kind P (demand hs) f a x y = y refl
by_kind P (element bytes) f a x y = y refl
by_kind P (done check) f a x y = y refl

-- a message that is no slice
pub plain : {A : Type 0} (c : Content) (f : (size offset salt width : ℕ) → A) (a : A) → is_slice c ≡ false → by_slice c f a ≡ a
plain c f a e =
    by_kind (λ x. x ≡ a) c f a
    (λ size offset salt width ids hashes counts q. absurd (clash (slice-kind (is_last size offset)) (subst (λ (d : Content). is_slice d ≡ false) q e)))
    (λ k. refl)

-- the ranges of a slice
pub record Ranges (size salt : ℕ) : Type 0 where
  pub low : 37 ≤ size
  pub high : size ≤ 4096
  pub small : salt < 64

pub ranges : (size offset salt width : ℕ) → slice_good size offset salt width ≡ true → Ranges size salt
ranges size offset salt width e =
    let e5 = both _ _ (both _ _ (both _ _ e).0).0 in
    let e2 = both _ _ (both _ _ (both _ _ e5.0).0).0 in
    record { low = leb-true 37 size e2.0; high = leb-true size 4096 e2.1; small = ltb-true salt 64 e5.1 }

-- ---- a refusal

-- what a refusal never changes: everything but the state, the columns and the two lists of a reading
pub record Ended (s u : Session) : Type 0 where
  pub state : u.state ≡ stopped s.state
  pub first : u.first ≡ s.first
  pub size : u.size ≡ s.size
  pub salt : u.salt ≡ s.salt
  pub width : u.width ≡ s.width
  pub swaps : u.swaps ≡ s.swaps
  pub far : u.far ≡ s.far
  pub ledger : u.ledger ≡ s.ledger

module _ (derive : ℕ → ℕ) (t : List ℕ) where
  pub passed : (h : ℕ) (s : Session) (c : Content) → acts (refusal derive t h s c) ≡ true → (admitted s c ≡ true) × Passed (tests derive t h s c)
  unfolding refusal
  passed h s c e = passes ((OutOfTurn, admitted s c) ∷ tests derive t h s c) e

  pub none-refused : (h : ℕ) (s : Session) (c : Content) → admitted s c ≡ true → Holds (tests derive t h s c) → refusal derive t h s c ≡ 0
  unfolding refusal
  none-refused h s c ad hold = holds-none ((OutOfTurn, admitted s c) ∷ tests derive t h s c) (ad, hold)

  -- 6 is a test's answer: the grid's is 5
  pub six_fails : (h : ℕ) (s : Session) (c : Content) → refusal derive t h s c ≡ 6 → fails 6 (tests derive t h s c) ≡ true
  unfolding refusal fails
  six_fails h s c e = first-fails 5 ((OutOfTurn, admitted s c) ∷ tests derive t h s c) e

  halted-ended : (s : Session) → Ended s (halted derive t s)
  halted-ended s = record { state = refl; first = refl; size = refl; salt = refl; width = refl; swaps = refl; far = refl; ledger = refl }

  cleared-ended : (s : Session) (r : Read) (size : ℕ) → Ended s (cleared derive t s r size)
  unfolding cleared
  cleared-ended s r size = record { state = refl; first = refl; size = refl; salt = refl; width = refl; swaps = refl; far = refl; ledger = refl }

  pub refused-ended : (n : ℕ) (s : Session) (c : Content) → Ended s (refused derive t n s c)
  unfolding refused
  refused-ended n s c =
      by_kind (Ended s) c _ _ (λ size offset salt width ids hashes counts e. go (clears n) (read_of derive t s c size salt) size) (λ k. halted-ended s)
    where
      go : (b : Bool) (r : Read) (size : ℕ) → Ended s (cond b (cleared derive t s r size) (halted derive t s))
      go true r size = cleared-ended s r size
      go false r size = halted-ended s

  -- ---- what holds of each way holds of what is done

  -- of a slice: a reading that is complete, one that is not, and a slice that does not reach the end
  pub by_reading : (P : Outcome → Type 0) (s : Session) (c : Content) (size offset salt width : ℕ) → let r = read_of derive t s c size salt in
      (is_last size offset ≡ true → is_complete r ≡ true → P (decoded derive t s r size salt))
      → (is_last size offset ≡ true → is_complete r ≡ false → P (swapped derive t s r size salt))
      → P (answer (sliced s c size salt width) []) → P (on_slice derive t s c size offset salt width)
  unfolding on_slice
  by_reading P s c size offset salt width full stuck part =
      choose P (is_last size offset) (λ whole. choose P (is_complete (read_of derive t s c size salt)) (full whole) (stuck whole)) (λ no. part)

  -- of a step: a message that is acted on, and one that is refused
  pub by_step : (P : Outcome → Type 0) (h : ℕ) (s : Session) (c : Content) → (admitted s c ≡ true → Passed (tests derive t h s c) → P (act derive t h s c))
      → P (answer (refused derive t (refusal derive t h s c) s c) []) → P (step derive t h s c)
  unfolding step
  by_step P h s c acted ended = choose P (acts (refusal derive t h s c)) (λ e. let (ad, fs) = passed h s c e in acted ad fs) (λ e. ended)

  -- so a message that is acted on is what the step does
  pub acted : (h : ℕ) (s : Session) (c : Content) → acts (refusal derive t h s c) ≡ true → step derive t h s c ≡ act derive t h s c
  unfolding step
  acted h s c e = rw e

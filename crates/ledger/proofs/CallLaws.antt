-- A step's call by its refusal: what it leaves where the message is acted on, and where it is refused. Assumes nothing.
--
--   act-change               what is done on a message that is no slice is its change
--   refused-halted           every refusal but 9 and 10 of a slice changes the state alone
--   step-acts, step-ends     a step, by its refusal
--   implies_unless ..        a test that holds, as one that does not fail
use mathlib.Core.Path.{◌≡◌, refl, ap, subst, ◌∙◌}
use mathlib.Core.Bool.{Bool, true, false, not, ◌&&◌, cond}
use mathlib.Core.List.{List}
use Prim.Native.Nat.{ℕ}
use lib.Dec.{ltb, leb}
use borrow.Author.Tests.{ltb-true, ltb-false, le-leb, lt-leb}
use Rattle.message.specs.Layout.{Content}
use Rattle.filter.specs.Sets.{implies}
use Rattle.ledger.specs.Session.{Session, is_slice, changed, acts, clears, refusal, change, act, halted, refused}
use Rattle.ledger.specs.Calls.{Given, Left, table_of, hash_given, session_of, ended, went, step_on}
use Rattle.ledger.proofs.FaultLaws.{plain}
use Rattle.ledger.proofs.Theorems.{refusal_buffers, refusal_no_reading}

-- ---- tests

pub implies_unless : (a b : Bool) → implies a b ≡ not (a && not b)
implies_unless true true = refl
implies_unless true false = refl
implies_unless false b = refl

pub leb_not_ltb : (m n : ℕ) → leb m n ≡ not (ltb n m)
leb_not_ltb m n = go (ltb n m) refl
  where
    go : (b : Bool) → ltb n m ≡ b → leb m n ≡ not b
    go true e = lt-leb m n (ltb-true n m e)
    go false e = le-leb m n (ltb-false n m e)

-- ---- what is done, and what a refusal leaves

module _ (derive : ℕ → ℕ) (t : List ℕ) where
  pub act-change : (h : ℕ) (s : Session) (c : Content) → is_slice c ≡ false → act derive t h s c ≡ changed s (change derive t h s c)
  unfolding act
  act-change h s c k = plain c _ (changed s (change derive t h s c)) k

  pub refused-halted : (n : ℕ) (s : Session) (c : Content) → clears n && is_slice c ≡ false → refused derive t n s c ≡ halted derive t s
  refused-halted n s c e = go (clears n) refl
    where
      go : (b : Bool) → clears n ≡ b → refused derive t n s c ≡ halted derive t s
      go true k = refusal_no_reading derive t n s c (subst (λ (b : Bool). b && is_slice c ≡ false) k e)
      go false k = refusal_buffers derive t n s c k

-- ---- a step

module _ (derive : ℕ → ℕ) (c : Content) (G : Given) where
  abbrev refusing : ℕ
  refusing = refusal derive (table_of G) (hash_given G) (session_of derive G) c

  abbrev step_by : ℕ → Bool → Left
  step_by n does =
      cond does (went derive n (act derive (table_of G) (hash_given G) (session_of derive G) c) G)
      (ended n (refused derive (table_of G) n (session_of derive G) c) G)

  step_by_lem : (n : ℕ) (does : Bool) → refusing ≡ n → acts n ≡ does → step_on derive c G ≡ step_by n does
  unfolding step_on
  step_by_lem n does e k = ap (λ (m : ℕ). step_by m (acts m)) e ∙ ap (step_by n) k

  pub step-acts : (n : ℕ) → refusing ≡ n → acts n ≡ true → step_on derive c G ≡ went derive n (act derive (table_of G) (hash_given G) (session_of derive G) c) G
  step-acts n e k = step_by_lem n true e k

  pub step-ends : (n : ℕ) → refusing ≡ n → acts n ≡ false → step_on derive c G ≡ ended n (refused derive (table_of G) n (session_of derive G) c) G
  step-ends n e k = step_by_lem n false e k

-- What a message that is no slice may change, proved once a message: every law of a step's changes cites this. Assumes nothing.
--
--   hashes_in, check_in   what a message says: the hashes that it offers, the checksum of its DONE
--   Says                what may be sent
--   Lawful              what a change may do
--   lawful              a message that is acted on does no more
use mathlib.Core.Path.{◌≡◌, refl, sym, ap, ap₂, subst, ◌∙◌}
use mathlib.Core.Logic.{◌⊎◌, inl, inr}
use mathlib.Core.Bool.{Bool, true, false, ◌&&◌, ◌||◌, cond}
use mathlib.Core.List.{List, [], ◌++◌}
use Prim.Native.Nat.{ℕ, ◌≤◌}
use native.Mathlib.Omega.{arith}
use lib.Dec.{eqb}
use borrow.Author.Tests.{eqb-true, ne_eqb, leb-true}
use Rattle.bucket.specs.Lists.{elem}
use Rattle.message.specs.Layout.{Content, slice, inquiry, offer, demand, element, done}
use Rattle.message.specs.Writing.{offers_of, demands_of}
use Rattle.filter.specs.Sets.{insert, ◌∪◌, is_nil, all, once, count, implies}
use Rattle.ledger.specs.Grid.{ACTIVE, PASSIVE, WAITING, FINISHED, is_state, is_last}
use Rattle.ledger.specs.Session.{Ledger, Session, Change, «in», is_slice, unmet, gaining, done_if, admitted, ids_of, held, held_ids, concerned, checksum, all_came, hashes_for, asks, new, allowed, last_one, waits, says_done, tests, own_done, change}
use Rattle.filter.proofs.SetLaws.{◌∈◌, ◌⊆◌, clash, either, and_l, and_r, ∪-in, select_in, in_append-l, in_append-r}
use Rattle.filter.proofs.ListLaws.{implies_of, all_in, is_nil_yes, is_nil_no, news-apart, news_in}
use Rattle.ledger.proofs.BookLaws.{Books, Form}
use Rattle.ledger.proofs.HeldLaws.{in_ids, ids_in_lem, unmet_in}
use Rattle.ledger.proofs.KeptLaws.{books-done, books-serving, books-asking, books-demanding, books-gaining, unmet_lacking}
use Rattle.ledger.proofs.GridLaws.{slice-kind, other_later, inquiry_passive}
use Rattle.ledger.proofs.FaultLaws.{Passed}

abbrev pub hashes_in : Content → List ℕ
hashes_in (offer hs) = hs
hashes_in (slice size offset salt width ids hashes counts) = []
hashes_in (inquiry salt xs) = []
hashes_in (demand hs) = []
hashes_in (element bytes) = []
hashes_in (done check) = []

abbrev pub check_in : Content → ℕ
check_in (done check) = check
check_in (slice size offset salt width ids hashes counts) = 0
check_in (inquiry salt xs) = 0
check_in (offer hs) = 0
check_in (demand hs) = 0
check_in (element bytes) = 0

module _ (derive : ℕ → ℕ) (t : List ℕ) where
  pub data Says (L : Ledger) (c : Content) (ch : Change) : Type 0 where
    nothing : ch.sent ≡ [] → Says L c ch
    ending : ch.sent ≡ own_done derive t ch.ledger → Says L c ch
    offers : (xs : List ℕ) → xs ⊆ held_ids derive t L → ch.sent ≡ offers_of (hashes_for derive t L xs) → Says L c ch
    demands : (hs : List ℕ) → hs ⊆ hashes_in c → ch.sent ≡ demands_of hs → Says L c ch

  pub record Lawful (h : ℕ) (s : Session) (c : Content) (ch : Change) : Type 0 where
    pub books : Books derive t ch.ledger
    pub later : 2 ≤ ch.state
    pub known : is_state ch.state ≡ true
    pub demands_inquired : eqb ch.state ACTIVE ≡ true → ids_of derive ch.ledger.demanded ⊆ ch.ledger.inquired
    pub done_exactly : eqb ch.state ACTIVE ≡ true → ch.ledger.done_went ≡ all_came derive t ch.ledger
    pub inquired : ch.ledger.inquired ≡ s.ledger.inquired
    pub demanded : ch.ledger.demanded ⊆ (hashes_in c ++ s.ledger.demanded)
    pub gained : (ch.ledger.gained ≡ s.ledger.gained) ⊎ ((h ∈ unmet s.ledger) × (ch.ledger.gained ≡ insert h s.ledger.gained))
    pub far : (ch.far ≡ s.far) ⊎ (ch.far ≡ check_in c)
    pub says : Says s.ledger c ch
    pub one : (ch.due ≡ []) ⊎ (ch.sent ≡ [])

  -- ---- Active Decoding: once DONE went, no demand is unmet

  pub none-unmet : (s : Session) → Form derive t s → «in» s ACTIVE ≡ true → s.ledger.done_went ≡ true → is_nil (unmet s.ledger) ≡ true
  unfolding all_came
  none-unmet s f a d =
      is_nil_yes (unmet s.ledger)
      (λ x u. unmet_lacking derive t s.ledger f.books x u
      (all_in (λ z. elem z (held_ids derive t s.ledger)) s.ledger.inquired (sym (f.done_exactly a) ∙ d) (derive x)
      (f.demands_inquired a (derive x) (in_ids derive x s.ledger.demanded (unmet_in s.ledger x u).0))))

  not_gone : (s : Session) (h : ℕ) → Form derive t s → h ∈ unmet s.ledger → «in» s ACTIVE ≡ true → s.ledger.done_went ≡ false
  not_gone s h f u a = go (either s.ledger.done_went)
    where
      go : (s.ledger.done_went ≡ true) ⊎ (s.ledger.done_went ≡ false) → s.ledger.done_went ≡ false
      go (inl d) = absurd (clash (none-unmet s f a d) (is_nil_no (unmet s.ledger) h u))
      go (inr d) = d

  -- ---- one message after the other

  module _ (h : ℕ) (s : Session) (f : Form derive t s) where
    abbrev L : Ledger
    L = s.ledger

    -- our DONE, or nothing
    own_or_nothing : {c : Content} (ch : Change) (b : Bool) → ch.sent ≡ cond b (own_done derive t ch.ledger) [] → Says L c ch
    own_or_nothing ch true e = ending e
    own_or_nothing ch false e = nothing e

    -- INQUIRY comes in Passive Decoding alone
    lawful_inquiry : (salt : ℕ) (xs : List ℕ) → admitted s (inquiry salt xs) ≡ true → Lawful h s (inquiry salt xs) (change derive t h s (inquiry salt xs))
    unfolding change
    lawful_inquiry salt xs ad =
        let passive : s.state ≡ 3 = inquiry_passive s (inquiry salt xs) refl ad in
        let na : «in» s ACTIVE ≡ false = ne_eqb s.state ACTIVE (λ e. absurd (omega arith)) in
        record {
          books = books-asking derive t (asks derive t L xs) L asked f.books;
          later = omega (arith, passive);
          known = f.state;
          demands_inquired = λ a. absurd (clash a na);
          done_exactly = λ a. absurd (clash a na);
          inquired = refl;
          demanded = λ x e. e;
          gained = inl refl;
          far = inl refl;
          says = offers (asks derive t L xs) asked refl;
          one = inl refl;
        }
      where
        asked : asks derive t L xs ⊆ held_ids derive t L
        asked x e = unfold asks in (select_in (λ z. elem z (held_ids derive t L)) xs x e).0

    lawful_offer : (hs : List ℕ) → 2 ≤ s.state → allowed derive t s (new derive t L hs) ≡ true → count (concerned derive t L ++ ids_of derive (new derive t L hs)) ≤ 4096
        → Lawful h s (offer hs) (change derive t h s (offer hs))
    unfolding change allowed new
    lawful_offer hs later right few =
        record {
          books = books-demanding derive t ys L (news-apart (held derive t L ++ L.demanded) hs) tests_are.1 f.books few;
          later = later;
          known = f.state;
          demands_inquired = inquired;
          done_exactly = λ a. unfold all_came held in f.done_exactly a;
          inquired = refl;
          demanded = λ x e. among x (∪-in x ys L.demanded e);
          gained = inl refl;
          far = inl refl;
          says = demands ys (news_in (held derive t L ++ L.demanded) hs) refl;
          one = inl refl;
        }
      where
        ys : List ℕ
        ys = new derive t L hs

        among : (x : ℕ) → (x ∈ new derive t L hs) ⊎ (x ∈ L.demanded) → x ∈ (hs ++ L.demanded)
        among x (inl e) = in_append-l x hs L.demanded (unfold new in news_in (held derive t L ++ L.demanded) hs x e)
        among x (inr e) = in_append-r x hs L.demanded e

        tests_are : (implies («in» s ACTIVE) (all (λ g. elem (derive g) L.inquired) ys) ≡ true)
            × (once (ids_of derive (held derive t L ++ L.demanded)) (ids_of derive ys) ≡ true)
        tests_are =
            let a : Bool = implies («in» s ACTIVE) (all (λ g. elem (derive g) L.inquired) ys) in
            let b : Bool = once (ids_of derive (held derive t L ++ L.demanded)) (ids_of derive ys) in
            (and_l a b right, and_r a b right)

        inquired : «in» s ACTIVE ≡ true → ids_of derive (ys ∪ L.demanded) ⊆ L.inquired
        inquired a y k =
            let (z, m, q) = ids_in_lem derive y (ys ∪ L.demanded) k in
            subst (λ (v : ℕ). v ∈ L.inquired) q (go z (∪-in z ys L.demanded m))
          where
            go : (z : ℕ) → (z ∈ ys) ⊎ (z ∈ L.demanded) → derive z ∈ L.inquired
            go z (inl p) = all_in (λ g. elem (derive g) L.inquired) ys (implies_of («in» s ACTIVE) _ tests_are.0 a) z p
            go z (inr p) = f.demands_inquired a (derive z) (in_ids derive z L.demanded p)

    lawful_demand : (hs : List ℕ) → 2 ≤ s.state → all (λ x. elem x L.offered) hs ≡ true → Lawful h s (demand hs) (change derive t h s (demand hs))
    unfolding change
    lawful_demand hs later known = record {
      books = books-serving derive t hs L (all_in (λ x. elem x L.offered) hs known) f.books;
      later = later;
      known = f.state;
      demands_inquired = f.demands_inquired;
      done_exactly = λ a. unfold all_came held in f.done_exactly a;
      inquired = refl;
      demanded = λ x e. e;
      gained = inl refl;
      far = inl refl;
      says = nothing refl;
      one = inr refl;
    }

    lawful_element : (bytes : List ℕ) → 2 ≤ s.state → h ∈ unmet L → Lawful h s (element bytes) (change derive t h s (element bytes))
    unfolding change checksum all_came held says_done last_one
    lawful_element bytes later u = record {
      books = books-done derive t (says_done derive t s (gaining h L)) (gaining h L) (books-gaining derive t h L u f.books);
      later = (stays (last_one s (gaining h L))).0;
      known = (stays (last_one s (gaining h L))).1;
      demands_inquired = λ a. f.demands_inquired (active (last_one s (gaining h L)) a);
      done_exactly = λ a. exact (active (last_one s (gaining h L)) a);
      inquired = refl;
      demanded = λ x e. e;
      gained = inr (u, refl);
      far = inl refl;
      says = own_or_nothing (change derive t h s (element bytes)) (says_done derive t s (gaining h L)) refl;
      one = inl refl;
    }
      where
        stays : (b : Bool) → (2 ≤ cond b FINISHED s.state) × (is_state (cond b FINISHED s.state) ≡ true)
        stays true = (omega arith, unfold elem in refl)
        stays false = (later, f.state)

        active : (b : Bool) → eqb (cond b FINISHED s.state) ACTIVE ≡ true → «in» s ACTIVE ≡ true
        active true a = absurd (clash a refl)
        active false a = a

        exact : «in» s ACTIVE ≡ true → says_done derive t s (gaining h L) || L.done_went ≡ all_came derive t (done_if (says_done derive t s (gaining h L)) (gaining h L))
        exact a =
            ap₂ (λ (w d : Bool). («in» s ACTIVE && all_came derive t (gaining h L)) || (w && is_nil (unmet (gaining h L))) || d) (ne_eqb s.state 5 (λ e. absurd (omega (arith, e, eqb-true s.state 2 a)))) (not_gone s h f u a)
            ∙ ap (λ (b : Bool). (b && all_came derive t (gaining h L)) || false || false) a
            ∙ last (all_came derive t (gaining h L))
          where
            last : (b : Bool) → b || false || false ≡ b
            last true = refl
            last false = refl

    lawful_done : (check : ℕ) → Lawful h s (done check) (change derive t h s (done check))
    unfolding change checksum held
    lawful_done check = record {
      books = books-done derive t says L f.books;
      later = (ends (waits s)).0;
      known = (ends (waits s)).1;
      demands_inquired = λ a. absurd (clash a (ends (waits s)).2);
      done_exactly = λ a. absurd (clash a (ends (waits s)).2);
      inquired = refl;
      demanded = λ x e. e;
      gained = inl refl;
      far = kept (waits s);
      says = own_or_nothing (change derive t h s (done check)) says refl;
      one = inl refl;
    }
      where
        says : Bool
        says = «in» s PASSIVE && is_nil (unmet L)

        ends : (b : Bool) → (2 ≤ cond b WAITING FINISHED) × (is_state (cond b WAITING FINISHED) ≡ true) × (eqb (cond b WAITING FINISHED) ACTIVE ≡ false)
        ends true = (omega arith, unfold elem in refl, refl)
        ends false = (omega arith, unfold elem in refl, refl)

        kept : (b : Bool) → (cond b check s.far ≡ s.far) ⊎ (cond b check s.far ≡ check)
        kept true = inr refl
        kept false = inl refl

  pub lawful : (h : ℕ) (s : Session) (c : Content) → is_slice c ≡ false → Form derive t s → admitted s c ≡ true
      → Passed (tests derive t h s c) → Lawful h s c (change derive t h s c)
  unfolding tests
  lawful h s (slice size offset salt width ids hashes counts) k f ad fs = absurd (clash (slice-kind (is_last size offset)) k)
  lawful h s (inquiry salt xs) k f ad fs = lawful_inquiry h s f salt xs ad
  lawful h s (offer hs) k f ad fs = lawful_offer h s f hs (other_later s (offer hs) refl ad) fs.0 (leb-true _ 4096 fs.1.0)
  lawful h s (demand hs) k f ad fs = lawful_demand h s f hs (other_later s (demand hs) refl ad) (and_l _ (once s.ledger.served hs) fs.0)
  lawful h s (element bytes) k f ad fs = lawful_element h s f bytes (other_later s (element bytes) refl ad) fs.0
  lawful h s (done check) k f ad fs = lawful_done h s f check

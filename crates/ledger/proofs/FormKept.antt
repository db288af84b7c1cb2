-- Every step keeps the form of a session. Assumes nothing.
use mathlib.Core.Path.{◌≡◌, refl, sym, ap, subst, ◌∙◌}
use mathlib.Core.Bool.{Bool, true, false, not, ◌&&◌, ◌||◌, true≢false, false≢true}
use mathlib.Core.List.{List, [], ◌∷◌, ◌++◌}
use Prim.Native.Nat.{ℕ, ◌≤◌, ◌<◌}
use native.Mathlib.Omega.{arith}
use lib.Dec.{ltb}
use borrow.Author.Tests.{not-true, ltb-true, ltb-false}
use Rattle.bucket.specs.Lists.{elem}
use Rattle.bucket.proofs.ListLaws.{elem-head}
use Rattle.filter.specs.Calls.{Read}
use Rattle.message.specs.Layout.{Content, slice, Good}
use Rattle.filter.specs.Sets.{◌∪◌, is_nil, all, count, implies}
use Rattle.ledger.specs.Grid.{ACTIVE, is_ended, is_last}
use Rattle.ledger.specs.Session.{Ledger, Session, Outcome, Change, no_ledger, turned, admitted, is_complete, ours_in, theirs_in, sliced, ids_of, held, all_came, opened, read_of, too_many, tests, refusal, swapped, decoded, on_slice, change, act, refused, step}
use Rattle.ledger.specs.Form.{idle}
use Rattle.filter.proofs.SetLaws.{◌⊆◌, clash, not_in_nil, not_in, in_∪-l}
use Rattle.filter.proofs.ListLaws.{implies_of, Apart, not_all}
use Rattle.ledger.proofs.BookLaws.{Table, Books, Form}
use Rattle.ledger.proofs.HeldLaws.{ids_in_lem}
use Rattle.ledger.proofs.KeptLaws.{books-opened}
use Rattle.ledger.proofs.ReadingLaws.{ReadLaw, read-law}
use Rattle.ledger.proofs.GridLaws.{slice-kind, slice-idle, come_idle, ended-state, stopped-ended, ended_other, ended-idle}
use Rattle.ledger.proofs.FaultLaws.{Passed, by_kind, Ranges, ranges, refused-ended, by_reading, by_step}
use Rattle.ledger.proofs.Lawful.{Lawful, lawful}
use Rattle.ledger.proofs.FilterRoomLaws.{next-salt, next-size}

module _ (derive : ℕ → ℕ) (t : List ℕ) where
  -- nothing special is asked of the ledger of an ended session
  form-ended : (s u : Session) → Form derive t s → Books derive t u.ledger → is_ended u.state ≡ true
      → u.swaps ≡ s.swaps → u.size ≡ s.size → u.salt ≡ s.salt → Form derive t u
  form-ended s u f b e sw sz sa = record {
    books = b;
    empty = λ k. absurd (clash k (ended-idle u e));
    demands_inquired = λ k. absurd (clash k (ended_other u.state ACTIVE e refl));
    done_exactly = λ k. absurd (clash k (ended_other u.state ACTIVE e refl));
    state = ended-state u.state e;
    swaps = omega (arith, f.swaps, sw);
    size_low = omega (arith, f.size_low, sz);
    size_high = omega (arith, f.size_high, sz);
    salt = omega (arith, f.salt, sa);
  }

  -- a lawful change
  form-change : (h : ℕ) (s : Session) (c : Content) (ch : Change) → Form derive t s → Lawful derive t h s c ch → Form derive t (turned s ch)
  form-change h s c ch f l = record {
    books = l.books;
    empty = λ k. absurd (clash k (come_idle (turned s ch) l.later refl));
    demands_inquired = l.demands_inquired;
    done_exactly = l.done_exactly;
    state = l.known;
    swaps = f.swaps;
    size_low = f.size_low;
    size_high = f.size_high;
    salt = f.salt;
  }

  -- ---- slices

  kept-sliced : (s : Session) (c : Content) (size salt width : ℕ) → Form derive t s → Ranges size salt → s.ledger ≡ no_ledger
      → Form derive t (sliced s c size salt width)
  unfolding sliced
  kept-sliced s c size salt width f g e = record {
    books = f.books;
    empty = λ k. e;
    demands_inquired = λ k. absurd (false≢true k);
    done_exactly = λ k. absurd (false≢true k);
    state = unfold elem in refl;
    swaps = f.swaps;
    size_low = g.low;
    size_high = g.high;
    salt = g.small;
  }

  kept-swapped : (s : Session) (r : Read) (size salt : ℕ) → Form derive t s → Ranges size salt → s.ledger ≡ no_ledger → s.swaps < 16
      → Form derive t (swapped derive t s r size salt).session
  unfolding swapped
  kept-swapped s r size salt f g e sw = record {
    books = f.books;
    empty = λ k. e;
    demands_inquired = λ k. absurd (false≢true k);
    done_exactly = λ k. absurd (false≢true k);
    state = unfold elem in refl;
    swaps = sw;
    size_low = (next-size size g.low).0;
    size_high = (next-size size g.low).1;
    salt = next-salt salt g.small;
  }

  -- nothing is inquired exactly where every inquired one is held
  opened_exact : (ours theirs : List ℕ) → Apart theirs (ids_of derive t) → is_nil theirs ≡ all_came derive t (opened derive t ours theirs no_ledger)
  unfolding all_came held ◌∪◌ all
  opened_exact ours [] a = refl
  opened_exact ours (x ∷ u) a =
      sym (not_all (λ z. elem z (ids_of derive t)) ((x ∷ u) ∪ []) x (in_∪-l x (x ∷ u) [] (elem-head x u)) (not_in x (ids_of derive t) (a x (elem-head x u))))

  kept-decoded : Table derive t → (s : Session) (r : Read) (size salt : ℕ) → Form derive t s → Ranges size salt → s.ledger ≡ no_ledger
      → ReadLaw (ids_of derive t) r → count (ids_of derive t ++ theirs_in r) ≤ 4096 → Form derive t (decoded derive t s r size salt).session
  unfolding decoded idle
  kept-decoded g s r size salt f ra e law few = record {
    books =
        subst (λ (L : Ledger). Books derive t (opened derive t (ours_in r) (theirs_in r) L)) (sym e)
        (books-opened derive t g (ours_in r) (theirs_in r) law.ours_held few);
    empty = λ k. absurd (false≢true k);
    demands_inquired = λ k.
        subst (λ (L : Ledger). ids_of derive L.demanded ⊆ theirs_in r ∪ []) (sym e)
        (λ x m. absurd (let (y, p, q) = ids_in_lem derive x [] m in not_in_nil y p));
    done_exactly = λ k.
        subst (λ (L : Ledger). is_nil (theirs_in r) ≡ all_came derive t (opened derive t (ours_in r) (theirs_in r) L)) (sym e)
        (opened_exact (ours_in r) (theirs_in r) law.theirs_new);
    state = unfold elem in refl;
    swaps = f.swaps;
    size_low = ra.low;
    size_high = ra.high;
    salt = ra.small;
  }

  -- ---- a message that is acted on

  kept-slice : Table derive t → (s : Session) (c : Content) (size offset salt width : ℕ) → Form derive t s → Ranges size salt → s.ledger ≡ no_ledger
      → implies (is_last size offset) (not (too_many derive t (read_of derive t s c size salt))) ≡ true
      → implies (is_last size offset) (is_complete (read_of derive t s c size salt) || ltb s.swaps 16) ≡ true
      → Form derive t (on_slice derive t s c size offset salt width).session
  unfolding too_many
  kept-slice g s c size offset salt width f ra e many swaps =
      let r : Read = read_of derive t s c size salt in
      by_reading derive t (λ o. Form derive t o.session) s c size offset salt width
      (λ whole yes. kept-decoded g s r size salt f ra e (read-law derive t size salt _ s.ours s.theirs yes)
      (ltb-false 4096 (count (ids_of derive t ++ theirs_in r)) (few (is_complete r) _ (implies_of (is_last size offset) _ many whole) yes)))
      (λ whole no. kept-swapped s r size salt f ra e (ltb-true s.swaps 16 (left (is_complete r) _ (implies_of (is_last size offset) _ swaps whole) no)))
      (kept-sliced s c size salt width f ra e)
    where
      few : (a b : Bool) → not (a && b) ≡ true → a ≡ true → b ≡ false
      few true b e k = not-true b e
      few false b e k = absurd (false≢true k)

      left : (a b : Bool) → a || b ≡ true → a ≡ false → b ≡ true
      left true b e k = absurd (true≢false k)
      left false b e k = e

  kept-act : Table derive t → (h : ℕ) (s : Session) (c : Content) → Form derive t s → Good c → admitted s c ≡ true
      → Passed (tests derive t h s c) → Form derive t (act derive t h s c).session
  unfolding act tests
  kept-act g h s c f gm ad fs =
      by_kind (λ (o : Outcome). Form derive t o.session) c _ _
      on_slice_lem
      (λ k. form-change h s c (change derive t h s c) f (lawful derive t h s c k f ad fs))
    where
      on_slice_lem : (size offset salt width : ℕ) (ids hashes counts : List ℕ) → c ≡ slice size offset salt width ids hashes counts → Form derive t (on_slice derive t s c size offset salt width).session
      on_slice_lem size offset salt width ids hashes counts e =
          subst (λ (d : Content). Good d → admitted s d ≡ true → Passed (tests derive t h s d) → Form derive t (on_slice derive t s d size offset salt width).session)
          (sym e) slice_kept gm ad fs
        where
          slice_kept : let d = slice size offset salt width ids hashes counts in Good d → admitted s d ≡ true → Passed (tests derive t h s d)
              → Form derive t (on_slice derive t s d size offset salt width).session
          slice_kept gd ad fs =
              let d : Content = slice size offset salt width ids hashes counts in
              kept-slice g s d size offset salt width f (ranges size offset salt width gd.ranges) (f.empty (slice-idle s d (slice-kind (is_last size offset)) ad))
              fs.1.0 fs.1.1.0

  -- a refusal, and a message acted on
  pub kept_step : Table derive t → (h : ℕ) (s : Session) (c : Content) → Form derive t s → Good c → Form derive t (step derive t h s c).session
  kept_step g h s c f gm =
      by_step derive t (λ o. Form derive t o.session) h s c (λ ad fs. kept-act g h s c f gm ad fs) (ended (refusal derive t h s c))
    where
      ended : (n : ℕ) → Form derive t (refused derive t n s c)
      ended n =
          let r = refused-ended derive t n s c in
          form-ended s (refused derive t n s c) f (subst (Books derive t) (sym r.ledger) f.books)
          (ap is_ended r.state ∙ stopped-ended s.state) r.swaps r.size r.salt

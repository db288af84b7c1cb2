-- The new hashes of an OFFER, gathered one after the other up to the first that is bad: all of them exactly if the OFFER is allowed.
-- Assumes nothing.
use mathlib.Core.Path.{◌≡◌, refl, sym, ap, subst, ◌∙◌}
use mathlib.Core.Logic.{◌⊎◌, inl, inr}
use mathlib.Core.Bool.{Bool, true, false, not, ◌&&◌, cond, false≢true, not-not}
use mathlib.Core.List.{List, [], ◌∷◌, ◌++◌, map, map-append, append_assoc, append-nil}
use Prim.Native.Nat.{ℕ, ◌≤◌}
use lib.Dec.{eqb}
use lib.ListN.{length}
use Rattle.bucket.specs.Lists.{elem}
use Rattle.bucket.proofs.ListLaws.{elem-head, elem_tail}
use Rattle.bucket.proofs.TestLaws.{and_fails}
use Rattle.filter.specs.Lists.{ascending}
use Rattle.filter.specs.Table.{holds}
use Rattle.filter.specs.Sets.{all, once, news, implies}
use Rattle.ledger.specs.Grid.{ACTIVE}
use Rattle.ledger.specs.Session.{Ledger, Session, «in», ids_of, held, new, allowed}
use Rattle.session.specs.Moves.{go_all, News, news_of, is_good, new_one, new_all, hash_at_place, place_of}
use Rattle.filter.proofs.SetLaws.{◌∈◌, ◌⊆◌, clash, of_asc, not_in, not_in_nil, in_cons, in_append-l, in_append-r, append_in}
use Rattle.filter.proofs.ListLaws.{Apart, all_of, in_map, map_in}
use Rattle.ledger.proofs.BookLaws.{Books}
use Rattle.ledger.proofs.HeldLaws.{table-held}
use Rattle.ledger.proofs.MemoryLaws.{held-known}
use Rattle.session.proofs.OfferPlaces.{place-known, place_same}

-- ---- the walk by members: S are the hashes known, and no new ID may be wrong

unfoldable new_by : (ℕ → ℕ) → List ℕ → (ℕ → Bool) → ℕ → News → News
new_by derive S wrong h w =
    cond (elem (derive h) (map derive S))
    (cond (elem h S) w (news_of false w.hashes))
    (cond (elem (derive h) (map derive w.hashes))
    (cond (elem h w.hashes) w (news_of false w.hashes))
    (cond (wrong (derive h)) (news_of false w.hashes) (news_of true (w.hashes ++ h ∷ []))))

module _ (derive : ℕ → ℕ) (S : List ℕ) (wrong : ℕ → Bool) where
  abbrev walked : List ℕ → List ℕ → News
  walked hs Q = go_all is_good (new_by derive S wrong) hs (news_of true Q)

  -- no ID is wrong, another's, or there twice
  abbrev clean : List ℕ → List ℕ → Bool
  clean U l = all (λ h. not (wrong (derive h))) l && once (map derive U) (map derive l)

  -- hashes Q are gathered, and U are all that were seen
  record Seen (Q U : List ℕ) : Type 0 where
    back : U ⊆ (Q ++ S)
    forth : (Q ++ S) ⊆ U
    apart : Apart (map derive Q) (map derive S)

  record Gathered (Q U hs : List ℕ) : Type 0 where
    fine : (walked hs Q).fine ≡ clean U (news U hs)
    hashes : (walked hs Q).fine ≡ true → (walked hs Q).hashes ≡ Q ++ news U hs

  on : (h : ℕ) (hs Q Q' : List ℕ) → new_by derive S wrong h (news_of true Q) ≡ news_of true Q' → walked (h ∷ hs) Q ≡ walked hs Q'
  unfolding go_all
  on h hs Q Q' e = ap (λ (w : News). cond w.fine (go_all is_good (new_by derive S wrong) hs w) w) e

  off : (h : ℕ) (hs Q : List ℕ) → new_by derive S wrong h (news_of true Q) ≡ news_of false Q → walked (h ∷ hs) Q ≡ news_of false Q
  unfolding go_all
  off h hs Q e = ap (λ (w : News). cond w.fine (go_all is_good (new_by derive S wrong) hs w) w) e

  -- what `clean` says of a hash before others
  abbrev clean_from : List ℕ → ℕ → List ℕ → Bool
  clean_from U h l =
      (not (wrong (derive h)) && all (λ x. not (wrong (derive x))) l)
      && (not (elem (derive h) (map derive U)) && once (map derive (h ∷ U)) (map derive l))

  -- ---- one hash: seen, bad or new

  module _ (h : ℕ) (hs Q U : List ℕ) where
    old : elem h U ≡ true → news U (h ∷ hs) ≡ news U hs
    unfolding news
    old e = ap (λ (b : Bool). cond b (news U hs) (h ∷ news (h ∷ U) hs)) e

    fresh : elem h U ≡ false → news U (h ∷ hs) ≡ h ∷ news (h ∷ U) hs
    unfolding news
    fresh e = ap (λ (b : Bool). cond b (news U hs) (h ∷ news (h ∷ U) hs)) e

    clean-fresh : elem h U ≡ false → clean U (news U (h ∷ hs)) ≡ clean_from U h (news (h ∷ U) hs)
    unfolding all once
    clean-fresh e = ap (clean U) (fresh e)

    seen_one : elem h U ≡ true → new_by derive S wrong h (news_of true Q) ≡ news_of true Q → Gathered Q U hs → Gathered Q U (h ∷ hs)
    seen_one e w g = record {
      fine = rw (on h hs Q Q w, old e) g.fine;
      hashes = rw (on h hs Q Q w, old e) g.hashes;
    }

    bad_one : elem h U ≡ false → new_by derive S wrong h (news_of true Q) ≡ news_of false Q → (wrong (derive h) ≡ true) ⊎ (derive h ∈ map derive U)
        → Gathered Q U (h ∷ hs)
    bad_one e w k = record {
      fine = ap (λ (r : News). r.fine) (off h hs Q w) ∙ sym (clean-fresh e ∙ fails k);
      hashes = λ f. absurd (false≢true (sym (ap (λ (r : News). r.fine) (off h hs Q w)) ∙ f));
    }
      where
        fails : (wrong (derive h) ≡ true) ⊎ (derive h ∈ map derive U) → clean_from U h (news (h ∷ U) hs) ≡ false
        fails (inl q) = rw q refl
        fails (inr q) = rw q (and_fails (not (wrong (derive h)) && all (λ x. not (wrong (derive x))) (news (h ∷ U) hs)) refl)

    new-one : elem h U ≡ false → new_by derive S wrong h (news_of true Q) ≡ news_of true (Q ++ h ∷ []) → wrong (derive h) ≡ false
        → elem (derive h) (map derive U) ≡ false → Gathered (Q ++ h ∷ []) (h ∷ U) hs → Gathered Q U (h ∷ hs)
    new-one e w right other g = record {
      fine = ap (λ (r : News). r.fine) next ∙ g.fine ∙ sym (clean-fresh e ∙ passes);
      hashes = λ f.
          ap (λ (r : News). r.hashes) next
          ∙ g.hashes (sym (ap (λ (r : News). r.fine) next) ∙ f)
          ∙ append_assoc Q (h ∷ []) (news (h ∷ U) hs)
          ∙ ap (λ (l : List ℕ). Q ++ l) (sym (fresh e));
    }
      where
        next : walked (h ∷ hs) Q ≡ walked hs (Q ++ h ∷ [])
        next = on h hs Q (Q ++ h ∷ []) w

        passes : clean_from U h (news (h ∷ U) hs) ≡ clean (h ∷ U) (news (h ∷ U) hs)
        passes = rw (right, other) refl

  -- ---- what was seen

  module _ (Q U : List ℕ) (s : Seen Q U) where
    seen-known : (h : ℕ) → h ∈ S → h ∈ U
    seen-known h e = s.forth h (in_append-r h Q S e)

    seen-gathered : (h : ℕ) → h ∈ Q → h ∈ U
    seen-gathered h e = s.forth h (in_append-l h Q S e)

    id-known : (x : ℕ) → x ∈ map derive S → x ∈ map derive U
    id-known x e = let (h, m, q) = map_in derive x S e in subst (λ (z : ℕ). z ∈ map derive U) q (in_map derive h U (seen-known h m))

    id-gathered : (x : ℕ) → x ∈ map derive Q → x ∈ map derive U
    id-gathered x e = let (h, m, q) = map_in derive x Q e in subst (λ (z : ℕ). z ∈ map derive U) q (in_map derive h U (seen-gathered h m))

    -- neither known nor gathered
    not_seen : (h : ℕ) → elem h S ≡ false → elem h Q ≡ false → elem h U ≡ false
    not_seen h e f = not_in h U (λ k. go (append_in h Q S (s.back h k)))
      where
        go : (h ∈ Q) ⊎ (h ∈ S) → ⊥
        go (inl k) = clash k f
        go (inr k) = clash k e

    id_not_seen : (x : ℕ) → elem x (map derive S) ≡ false → elem x (map derive Q) ≡ false → elem x (map derive U) ≡ false
    id_not_seen x e f = not_in x (map derive U) (λ k. go (map_in derive x U k))
      where
        go : (h : ℕ) × (h ∈ U) × (derive h ≡ x) → ⊥
        go (h, m, q) = at (append_in h Q S (s.back h m))
          where
            at : (h ∈ Q) ⊎ (h ∈ S) → ⊥
            at (inl k) = clash (subst (λ (z : ℕ). z ∈ map derive Q) q (in_map derive h Q k)) f
            at (inr k) = clash (subst (λ (z : ℕ). z ∈ map derive S) q (in_map derive h S k)) e

    -- a hash with an ID that no hash of a list has is not in it
    other_hash : (h : ℕ) (l : List ℕ) → elem (derive h) (map derive l) ≡ false → elem h l ≡ false
    other_hash h l e = not_in h l (λ k. clash (in_map derive h l k) e)

    seen_next : (h : ℕ) → elem (derive h) (map derive S) ≡ false → Seen (Q ++ h ∷ []) (h ∷ U)
    seen_next h e = record {
      back = λ x k. back_one x (in_cons x h U k);
      forth = λ x k. forth-one x (append_in x (Q ++ h ∷ []) S k);
      apart = λ x k i. apart-one x i (append_in x (map derive Q) (derive h ∷ []) (subst (λ (l : List ℕ). x ∈ l) (map-append derive Q (h ∷ [])) k));
    }
      where
        last : h ∈ Q ++ h ∷ []
        last = in_append-r h Q (h ∷ []) (elem-head h [])

        back_one : (x : ℕ) → (x ≡ h) ⊎ (x ∈ U) → x ∈ (Q ++ h ∷ []) ++ S
        back_one x (inl q) = subst (λ (z : ℕ). z ∈ (Q ++ h ∷ []) ++ S) (sym q) (in_append-l h (Q ++ h ∷ []) S last)
        back_one x (inr k) = go (append_in x Q S (s.back x k))
          where
            go : (x ∈ Q) ⊎ (x ∈ S) → x ∈ (Q ++ h ∷ []) ++ S
            go (inl m) = in_append-l x (Q ++ h ∷ []) S (in_append-l x Q (h ∷ []) m)
            go (inr m) = in_append-r x (Q ++ h ∷ []) S m

        single : (x y : ℕ) → (x ≡ y) ⊎ (x ∈ []) → x ≡ y
        single x y (inl q) = q
        single x y (inr k) = absurd (not_in_nil x k)

        forth-one : (x : ℕ) → (x ∈ Q ++ h ∷ []) ⊎ (x ∈ S) → x ∈ h ∷ U
        forth-one x (inr k) = elem_tail x h U (seen-known x k)
        forth-one x (inl k) = go (append_in x Q (h ∷ []) k)
          where
            go : (x ∈ Q) ⊎ (x ∈ h ∷ []) → x ∈ h ∷ U
            go (inl m) = elem_tail x h U (seen-gathered x m)
            go (inr m) = subst (λ (z : ℕ). z ∈ h ∷ U) (sym (single x h (in_cons x h [] m))) (elem-head h U)

        apart-one : (x : ℕ) → x ∈ map derive S → (x ∈ map derive Q) ⊎ (x ∈ derive h ∷ []) → ⊥
        apart-one x i (inl k) = s.apart x k i
        apart-one x i (inr k) = clash (subst (λ (z : ℕ). z ∈ map derive S) (single x (derive h) (in_cons x (derive h) [] k)) i) e

  gathered : (hs Q U : List ℕ) → Seen Q U → Gathered Q U hs
  unfolding go_all news all once new_by
  gathered [] Q U s = record { fine = refl; hashes = λ f. sym (append-nil Q) }
  gathered (h ∷ hs) Q U s =
      go (elem (derive h) (map derive S)) refl (elem h S) refl (elem (derive h) (map derive Q)) refl (elem h Q) refl (wrong (derive h)) refl
      (gathered hs Q U s) (λ e. gathered hs (Q ++ h ∷ []) (h ∷ U) (seen_next Q U s h e))
    where
      go : (a : Bool) → elem (derive h) (map derive S) ≡ a → (b : Bool) → elem h S ≡ b → (c : Bool) → elem (derive h) (map derive Q) ≡ c
          → (d : Bool) → elem h Q ≡ d → (w : Bool) → wrong (derive h) ≡ w
          → Gathered Q U hs → (elem (derive h) (map derive S) ≡ false → Gathered (Q ++ h ∷ []) (h ∷ U) hs) → Gathered Q U (h ∷ hs)
      go true p true q c r d t w v same next = seen_one h hs Q U (seen-known Q U s h q) (rw (p, q) refl) same
      go true p false q c r d t w v same next = bad_one h hs Q U (not_seen Q U s h q (not_in h Q (λ k. s.apart (derive h) (in_map derive h Q k) p))) (rw (p, q) refl) (inr (id-known Q U s (derive h) p))
      go false p b q true r true t w v same next = seen_one h hs Q U (seen-gathered Q U s h t) (rw (p, r, t) refl) same
      go false p b q true r false t w v same next =
          bad_one h hs Q U (not_seen Q U s h (other_hash Q U s h S p) t) (rw (p, r, t) refl) (inr (id-gathered Q U s (derive h) r))
      go false p b q false r d t true v same next =
          bad_one h hs Q U (not_seen Q U s h (other_hash Q U s h S p) (other_hash Q U s h Q r)) (rw (p, r, v) refl) (inl v)
      go false p b q false r d t false v same next =
          new-one h hs Q U (not_seen Q U s h (other_hash Q U s h S p) (other_hash Q U s h Q r)) (rw (p, r, v) refl) v (id_not_seen Q U s (derive h) p r) (next p)

-- ---- the walk of an OFFER, by places

module _ (derive : ℕ → ℕ) (t K I : List ℕ) (active : Bool) (ascT : ascending (map derive t) ≡ true) (ascK : ascending (map derive K) ≡ true) (fewT : length t ≤ 4096) (fewK : length K ≤ 4096) (one : (x y : ℕ) → x ∈ t ++ K → y ∈ t ++ K → derive x ≡ derive y → x ≡ y) where
  abbrev not_asked : ℕ → Bool
  not_asked x = active && not (holds I x)

  by_places : (h : ℕ) (w : News) → new_one derive t K I active h w ≡ new_by derive (t ++ K) not_asked h w
  unfolding new_one new_by
  by_places h w =
      ap (λ (b : Bool). cond b (cond (eqb k h) w (news_of false w.hashes)) rest) (place-known derive t K ascT ascK fewT fewK (derive h))
      ∙ go (elem (derive h) (map derive (t ++ K))) refl
    where
      k : ℕ
      k = hash_at_place t K (place_of (map derive t) (map derive K) (derive h))

      rest : News
      rest =
          cond (elem (derive h) (map derive w.hashes))
          (cond (elem h w.hashes) w (news_of false w.hashes))
          (cond (active && not (holds I (derive h))) (news_of false w.hashes) (news_of true (w.hashes ++ h ∷ [])))

      go : (a : Bool) → elem (derive h) (map derive (t ++ K)) ≡ a
          → cond a (cond (eqb k h) w (news_of false w.hashes)) rest ≡ cond a (cond (elem h (t ++ K)) w (news_of false w.hashes)) rest
      go true e = ap (λ (b : Bool). cond b w (news_of false w.hashes)) (place_same derive t K ascT ascK fewT fewK one h e)
      go false e = refl

  all_by_places : (hs : List ℕ) → new_all derive t K I active hs ≡ go_all is_good (new_by derive (t ++ K) not_asked) hs (news_of true [])
  all_by_places hs = λ i. go_all is_good (λ h w. by_places h w i) hs (news_of true [])

  module _ (U hs : List ℕ) (back : U ⊆ (t ++ K)) (forth : (t ++ K) ⊆ U) where
    start : Seen derive (t ++ K) not_asked [] U
    start = record { back = back; forth = forth; apart = λ x e k. not_in_nil x e }

    walk_fine : (new_all derive t K I active hs).fine ≡ clean derive (t ++ K) not_asked U (news U hs)
    walk_fine = ap (λ (w : News). w.fine) (all_by_places hs) ∙ (gathered derive (t ++ K) not_asked hs [] U start).fine

    walk-hashes : (new_all derive t K I active hs).fine ≡ true → (new_all derive t K I active hs).hashes ≡ news U hs
    walk-hashes f =
        ap (λ (w : News). w.hashes) (all_by_places hs)
        ∙ (gathered derive (t ++ K) not_asked hs [] U start).hashes (sym (ap (λ (w : News). w.fine) (all_by_places hs)) ∙ f)

-- ---- and by the session's tests

all_asked : (derive : ℕ → ℕ) (I : List ℕ) → ascending I ≡ true → (active : Bool) (l : List ℕ)
    → all (λ h. not (active && not (holds I (derive h)))) l ≡ implies active (all (λ h. elem (derive h) I) l)
all_asked derive I asc false l = all_of (λ h. true) l (λ x e. refl)
all_asked derive I asc true l = λ i. all (λ h. (not-not (holds I (derive h)) ∙ Rattle.filter.proofs.BisectLaws.held I (derive h) asc) i) l

module _ (derive : ℕ → ℕ) (t : List ℕ) (s : Session) (b : Books derive t s.ledger) (ascT : ascending (map derive t) ≡ true) (ascK : ascending (map derive s.ledger.demanded) ≡ true) (fewT : length t ≤ 4096) (fewK : length s.ledger.demanded ≤ 4096) (hs : List ℕ) where
  abbrev L : Ledger
  L = s.ledger

  abbrev met : List ℕ
  met = held derive t L ++ L.demanded

  met-back : met ⊆ (t ++ L.demanded)
  met-back x e = go (append_in x (held derive t L) L.demanded e)
    where
      go : (x ∈ held derive t L) ⊎ (x ∈ L.demanded) → x ∈ t ++ L.demanded
      go (inl k) = at (held-known derive t L b x k)
        where
          at : (x ∈ t) ⊎ (x ∈ L.demanded) → x ∈ t ++ L.demanded
          at (inl m) = in_append-l x t L.demanded m
          at (inr m) = in_append-r x t L.demanded m
      go (inr k) = in_append-r x t L.demanded k

  met-forth : (t ++ L.demanded) ⊆ met
  met-forth x e = go (append_in x t L.demanded e)
    where
      go : (x ∈ t) ⊎ (x ∈ L.demanded) → x ∈ met
      go (inl k) = in_append-l x (held derive t L) L.demanded (table-held derive t L x k)
      go (inr k) = in_append-r x (held derive t L) L.demanded k

  pub new-fine : (new_all derive t L.demanded L.inquired («in» s ACTIVE) hs).fine ≡ allowed derive t s (new derive t L hs)
  unfolding allowed new ids_of
  new-fine =
      walk_fine derive t L.demanded L.inquired («in» s ACTIVE) ascT ascK fewT fewK b.no_shared met hs met-back met-forth
      ∙ ap (λ (c : Bool). c && once (map derive met) (map derive (news met hs))) (all_asked derive L.inquired (of_asc L.inquired b.inquired_asc) («in» s ACTIVE) (news met hs))

  pub new-hashes : (new_all derive t L.demanded L.inquired («in» s ACTIVE) hs).fine ≡ true
      → (new_all derive t L.demanded L.inquired («in» s ACTIVE) hs).hashes ≡ new derive t L hs
  unfolding new
  new-hashes = walk-hashes derive t L.demanded L.inquired («in» s ACTIVE) ascT ascK fewT fewK b.no_shared met hs met-back met-forth

-- What an end does with each kind of message of the other, where all is right (document 02, Req 14).
--
--   hears_inquiries      INQUIRY in Passive Decoding: OFFER answers
--   hears_offers         OFFER in Active or Passive Decoding: DEMAND answers
--   hears_demands        DEMAND in Active or Passive Decoding: ELEMENTs answer
--   hears_elements       ELEMENTs while more are to come
--   hears_last_active    all ELEMENTs that were inquired: DONE answers
--   hears_last_waiting   all ELEMENTs after a DONE: compared, DONE answers
--   hears_done           DONE with nothing unmet: compared, in Passive Decoding DONE answers
--   hears_done-early     DONE with a demand unmet
--
-- Each says that no message is refused, and what the ledger is then and what was sent, over the lists that the messages carry.
-- Assumes nothing.
use mathlib.Core.Path.{◌≡◌, refl, sym, ap, ◌∙◌, subst}
use mathlib.Core.Bool.{Bool, true, false, ◌||◌, cond, and-false, and-true}
use mathlib.Core.List.{List, [], ◌∷◌, ◌++◌, map, flatten, append-nil, map-append}
use mathlib.Core.Logic.{◌⊎◌, inl, inr}
use Prim.Native.Nat.{ℕ, ◌≤◌}
use native.Mathlib.Nat.{le_trans}
use lib.Dec.{eqb}
use lib.ListN.{length}
use borrow.Author.Tests.{le-leb}
use Rattle.bucket.specs.Lists.{elem, Distinct}
use Rattle.bucket.proofs.ListLaws.{eqb_self, elem-head}
use Rattle.bucket.proofs.TestLaws.{and_holds}
use Rattle.filter.specs.Lists.{select}
use Rattle.filter.specs.Sets.{◌∪◌, is_nil, all, news, implies}
use Rattle.filter.proofs.SetLaws.{◌∈◌, ◌⊆◌, clash, not_in, not_in_nil, in_append-l, in_append-r, append_in, in_∪-l, ∪-in, ∪-nil, in_∖, ∖-in, ∪-append}
use Rattle.filter.proofs.ListLaws.{all_of, not_all, select_of, is_nil_yes, is_nil_no, Apart, distinct-front, distinct_apart, once_of, news_of_lem, of_implies}
use Rattle.message.specs.Layout.{inquiry, offer, demand, element, done}
use Rattle.ledger.specs.Grid.{ACTIVE, PASSIVE, WAITING, FINISHED, place_in, entry}
use Rattle.ledger.specs.Session.{Ledger, Session, unmet, done_if, by_slice, ids_of, hash_of, held, checksum, concerned, all_came, hashes_for, asks, new, allowed, agrees, last_one, waits, tests, own_done, says_done, change, act}
use Rattle.ledger.proofs.HeldLaws.{in_ids, ids_in_lem, ids-part, ids-distinct, ids-apart, ids-count, unmet_in, Concerned, concerned_in}
use Rattle.union.proofs.Net.{hears_then}
use Rattle.union.proofs.Ends.{Rules, element_of, Worked, end, next, says, put, keeping, led, sum, Part, now_in, now_apart, map-flat_map, flat_map_self, flat_map_single, flat_map-none, ends_with, Takes, Hear, hears_as, hear, admits, hears_list, hears_cut}

module _ (R : Rules) (t : List ℕ) (s : Session) where
  -- ---- INQUIRY in Passive Decoding: OFFER answers

  pub hears_inquiries : (l : List ℕ) → Distinct l → l ⊆ ids_of R.id_of t → (cs : List (List ℕ)) → flatten cs ≡ l → (f : Bool)
      → (f' : Bool) × (ds : List (List ℕ)) × (flatten ds ≡ map (hash_of R.id_of t) l)
      × Hear R (end t (put s PASSIVE f (led [] [] [] [] [] [] false))) (map (inquiry s.salt) cs)
      (end t (put s PASSIVE f' (led [] l (map (hash_of R.id_of t) l) [] [] [] false))) (map offer ds)
  unfolding tests entry place_in by_slice act change asks held ◌∪◌ hashes_for
  hears_inquiries l d has =
      hears_cut R (inquiry s.salt) offer hashes refl (map-append (hash_of R.id_of t)) (λ f a. end t (at f a)) l d
      (λ f a c p.
      let known : select (λ x. elem x (ids_of R.id_of t)) c ≡ c = select_of (λ x. elem x (ids_of R.id_of t)) c (λ x e. has x (now_in p x e)) in
      rw (known, append-nil, ∪-append a c [] tt, ∪-append (hashes a) (hashes c) [] tt, ← map-append (hash_of R.id_of t) a c) at
      (hear R t (at f a) (inquiry s.salt c) 0 refl (admits (at f a) (inquiry s.salt c) refl refl)
      (and_holds (eqb_self s.salt) (rw known (once_of (a ∪ []) c p.distinct (now_apart p))), tt)))
    where
      hashes : List ℕ → List ℕ
      hashes c = map (hash_of R.id_of t) c

      at : Bool → List ℕ → Session
      at f a = put s PASSIVE f (led [] a (hashes a) [] [] [] false)

  -- ---- OFFER in Active or Passive Decoding, with nothing gained yet, of elements of a set U of at most 4,096 with IDs apart: DEMAND answers

  module _ (U : List ℕ) (no_shared : (x y : ℕ) → x ∈ U → y ∈ U → R.id_of x ≡ R.id_of y → x ≡ y) (few : length U ≤ 4096) (tU : t ⊆ U) where
    pub hears_offers : (q : ℕ) → Takes q (offer []) → (b : Bool) (inquired asked offered served l : List ℕ) → Distinct l → l ⊆ U → Apart l t
        → inquired ⊆ ids_of R.id_of U → (eqb q ACTIVE ≡ true → ids_of R.id_of l ⊆ inquired) → (cs : List (List ℕ)) → flatten cs ≡ l → (f : Bool)
        → (f' : Bool) × (ds : List (List ℕ)) × (flatten ds ≡ l)
        × Hear R (end t (put s q f (led inquired asked offered served [] [] b))) (map offer cs)
        (end t (put s q f' (led inquired asked offered served l [] b))) (map demand ds)
    unfolding tests by_slice act change new held ◌∪◌ allowed
    hears_offers q takes b inquired asked offered served l d lU lt qU timely =
        hears_cut R offer demand (λ c. c) refl (λ a b. refl) (λ f a. end t (at f a)) l d
        (λ f a c p.
        let same : news (t ++ (a ∪ [])) c ≡ c = news_of_lem (t ++ (a ∪ [])) c p.distinct (fresh a c p) in
        rw (same, append-nil, ∪-append a c [] tt) at
        (hear R t (at f a) (offer c) 0 refl (admits (at f a) (offer c) refl takes)
        (rw same (
          and_holds (of_implies (eqb q ACTIVE) _
              (λ e. all_of _ c (λ x m. in_∪-l (R.id_of x) inquired [] (timely e (R.id_of x) (in_ids R.id_of x l (now_in p x m))))))
              (once_of (ids_of R.id_of (t ++ (a ∪ []))) (ids_of R.id_of c) (apart c p)
              (ids-apart R.id_of c (t ++ (a ∪ [])) (λ x y m n. no_shared x y (lU x (now_in p x m)) (known a c p y n)) (fresh a c p))),
          (le-leb _ 4096 (le_trans (ids-count R.id_of _ U (wanted f a c p)) few), tt),
        ))))
      where
        at : Bool → List ℕ → Session
        at f a = put s q f (led inquired asked offered served a [] b)

        apart : (c : List ℕ) {a : List ℕ} → Part l a c → Distinct (ids_of R.id_of c)
        apart c p = ids-distinct R.id_of c (λ x y m n. no_shared x y (lU x (now_in p x m)) (lU y (now_in p y n))) p.distinct

        fresh : (a c : List ℕ) → Part l a c → Apart c (t ++ (a ∪ []))
        fresh a c p x m k = go (append_in x t (a ∪ []) k)
          where
            go : (x ∈ t) ⊎ (x ∈ a ∪ []) → ⊥
            go (inl e) = lt x (now_in p x m) e
            go (inr e) = now_apart p x m e

        known : (a c : List ℕ) → Part l a c → (t ++ (a ∪ [])) ⊆ U
        known a c p x k = go (append_in x t (a ∪ []) k)
          where
            go : (x ∈ t) ⊎ (x ∈ a ∪ []) → x ∈ U
            go (inl e) = tU x e
            go (inr e) = lU x (p.within x (in_append-l x a c (∪-nil x a e)))

        wanted : (f : Bool) (a c : List ℕ) → Part l a c → (concerned R.id_of t (at f a).ledger ++ ids_of R.id_of c) ⊆ ids_of R.id_of U
        wanted f a c p x k = go (append_in x (concerned R.id_of t (at f a).ledger) (ids_of R.id_of c) k)
          where
            at_once : Concerned R.id_of t (at f a).ledger x → x ∈ ids_of R.id_of U
            at_once (inl e) = ids-part R.id_of t U tU x e
            at_once (inr (inl e)) = qU x (∪-nil x inquired e)
            at_once (inr (inr e)) =
                ids-part R.id_of (unmet (at f a).ledger) U (λ y m. known a c p y (in_append-r y t (a ∪ []) (unmet_in (at f a).ledger y m).0)) x e

            go : (x ∈ concerned R.id_of t (at f a).ledger) ⊎ (x ∈ ids_of R.id_of c) → x ∈ ids_of R.id_of U
            go (inl e) = at_once (concerned_in R.id_of t (at f a).ledger x e)
            go (inr e) = ids-part R.id_of c U (λ y m. lU y (now_in p y m)) x e

  -- ---- DEMAND in Active or Passive Decoding: ELEMENTs answer

  pub hears_demands : (q : ℕ) → Takes q (demand []) → (b : Bool) (inquired asked offered demanded gained l : List ℕ) → Distinct l → l ⊆ offered
      → (cs : List (List ℕ)) → flatten cs ≡ l → (f : Bool)
      → (f' : Bool) × Hear R (end t (put s q f (led inquired asked offered [] demanded gained b))) (map demand cs)
      (end t (put s q f' (led inquired asked offered l demanded gained b))) (map (element_of R) l)
  unfolding tests by_slice act change
  hears_demands q takes b inquired asked offered demanded gained l d has cs e =
      hears_list R (λ c. c) demand (map (element_of R)) (λ f a. end t (at f a)) l d one cs (flat_map_self cs ∙ e) (map (element_of R) l)
      (sym (map-flat_map (element_of R) (λ c. c) cs) ∙ ap (map (element_of R)) (flat_map_self cs ∙ e))
    where
      at : Bool → List ℕ → Session
      at f a = put s q f (led inquired asked offered a demanded gained b)

      one : (f : Bool) (a c : List ℕ) → Part l a c → Hear R (end t (at f a)) (demand c ∷ []) (end t (at false (a ++ c))) (map (element_of R) c)
      one f a c p =
          rw (∪-append a c [] tt) at
          (hear R t (at f a) (demand c) 0 refl (admits (at f a) (demand c) refl takes)
          (and_holds (all_of _ c (λ x m. in_∪-l x offered [] (has x (now_in p x m)))) (once_of (a ∪ []) c p.distinct (now_apart p)), tt))

  -- ---- ELEMENT, all of those that were demanded in the end

  module _ (inquired asked offered served demanded : List ℕ) (b : Bool) where
    abbrev having : List ℕ → Ledger
    having g = led inquired asked offered served demanded g b

    -- "it is gained": what follows depends on whether it is the last one
    abbrev ends : ℕ → Ledger → Bool
    ends q L = last_one (put s q false L) L

    abbrev closes : ℕ → Ledger → Bool
    closes q L = says_done R.id_of t (put s q false L) L

    hears_element : (q : ℕ) → Takes q (element []) → (f : Bool) (h : ℕ) (g : List ℕ) → R.hash (R.content h) ≡ h → h ∈ demanded → (h ∈ g → ⊥)
        → let L = having (g ++ (h ∷ [])) in implies (ends q L) (agrees R.id_of t s.far L) ≡ true
        → Hear R (end t (put s q f (having g))) (element_of R h ∷ [])
        (end t (put s (cond (ends q L) FINISHED q) false (done_if (closes q L) L))) (cond (closes q L) (own_done R.id_of t L) [] ++ [])
    unfolding tests by_slice act change unmet ◌∪◌ last_one says_done
    hears_element q takes f h g right asked-for fresh agreed =
        rw (∪-append g (h ∷ []) [] tt) at
        (hear R t (put s q f (having g)) (element_of R h) h right (admits (put s q f (having g)) (element_of R h) refl takes) (
          in_∖ h (demanded ∪ []) (g ∪ []) (in_∪-l h demanded [] asked-for) (not_in h (g ∪ []) (λ k. fresh (∪-nil h g k))),
          (rw (∪-append g (h ∷ []) [] tt) agreed, tt),
        ))

    abbrev Unfinished : ℕ → List ℕ → Type 0
    Unfinished q g = (ends q (having g) ≡ false) × (closes q (having g) ≡ false)

    pub hears_elements : (q : ℕ) → Takes q (element []) → (l : List ℕ) → Distinct l → l ⊆ demanded → Worked R l → ((g : List ℕ) → g ⊆ l → Unfinished q g)
        → (f : Bool)
        → (f' : Bool) × Hear R (end t (put s q f (having []))) (map (element_of R) l) (end t (put s q f' (having l))) []
    hears_elements q takes l d has right more =
        hears_list R (λ h. h ∷ []) (element_of R) (λ h. []) (λ f g. end t (put s q f (having g))) l d one l (flat_map_single l) [] (flat_map-none l)
      where
        one : (f : Bool) (g : List ℕ) (h : ℕ) → Part l g (h ∷ [])
            → Hear R (end t (put s q f (having g))) (element_of R h ∷ []) (end t (put s q false (having (g ++ (h ∷ []))))) []
        one f g h p =
            let (unended, unclosed) = more (g ++ (h ∷ [])) p.within in
            let here : h ∈ l = now_in p h (elem-head h []) in
            rw (unended, unclosed) at (hears_element q takes f h g (right h here) (has h here) (p.apart h (elem-head h [])) (rw unended refl))

    -- all of a list, the last of which ends it
    abbrev Come : ℕ → Bool → List ℕ → Type 0
    Come q f l = Distinct l → l ⊆ demanded → Worked R l → ((g : List ℕ) (y : ℕ) → g ⊆ l → y ∈ l → (y ∈ g → ⊥) → Unfinished q g)
        → implies (ends q (having l)) (agrees R.id_of t s.far (having l)) ≡ true
        → Hear R (end t (put s q f (having []))) (map (element_of R) l)
        (end t (put s (cond (ends q (having l)) FINISHED q) false (done_if (closes q (having l)) (having l))))
        (cond (closes q (having l)) (own_done R.id_of t (having l)) [])

    come : (q : ℕ) → Takes q (element []) → (f : Bool) (x : ℕ) (l : List ℕ) → Come q f (x ∷ l)
    come q takes f x l = let (i, y, e) = ends_with x l in subst (Come q f) (sym e) (last i y)
      where
        last : (i : List ℕ) (y : ℕ) → Come q f (i ++ (y ∷ []))
        last i y d has right more agreed =
            let front : i ⊆ (i ++ (y ∷ [])) = λ x e. in_append-l x i (y ∷ []) e in
            let here : y ∈ i ++ (y ∷ []) = in_append-r y i (y ∷ []) (elem-head y []) in
            let fresh : y ∈ i → ⊥ = distinct_apart i (y ∷ []) d y (elem-head y []) in
            let (f', before) =
            hears_elements q takes i (distinct-front i (y ∷ []) d) (λ x e. has x (front x e)) (λ x e. right x (front x e))
            (λ g gi. more g y (λ x e. front x (gi x e)) here (λ k. fresh (gi y k))) f in
            hears_as R (sym (map-append (element_of R) i (y ∷ []))) (append-nil _)
            (hears_then (next R) (says R) before (hears_element q takes f' y i (right y here) (has y here) fresh agreed))

  -- ---- ELEMENTs and DONE, by what is unmet

  module _ (inquired asked offered served : List ℕ) where
    all-met : (l : List ℕ) (b : Bool) → is_nil (unmet (led inquired asked offered served l l b)) ≡ true
    unfolding unmet
    all-met l b = is_nil_yes _ (λ x e. clash (∖-in x (l ∪ []) (l ∪ []) e).0 (∖-in x (l ∪ []) (l ∪ []) e).1)

    some-unmet : (l g : List ℕ) (b : Bool) (y : ℕ) → y ∈ l → (y ∈ g → ⊥) → is_nil (unmet (led inquired asked offered served l g b)) ≡ false
    unfolding unmet
    some-unmet l g b y here fresh = is_nil_no _ y (in_∖ y (l ∪ []) (g ∪ []) (in_∪-l y l [] here) (not_in y (g ∪ []) (λ k. fresh (∪-nil y g k))))

    -- "In 5 the last ELEMENT compares and also sends DONE. Equal: 6."
    pub hears_last_waiting : (x : ℕ) (xs : List ℕ) (b : Bool) → let l = x ∷ xs in Distinct l → Worked R l → s.far ≡ sum (l ∪ [] ∪ t)
        → Hear R (end t (put s WAITING false (led inquired asked offered served l [] b))) (map (element_of R) l)
        (end t (put s FINISHED false (led inquired asked offered served l l true))) (done (sum (l ∪ [] ∪ t)) ∷ [])
    unfolding last_one says_done agrees checksum held entry place_in
    hears_last_waiting x xs b d right same =
        let l : List ℕ = x ∷ xs in
        rw (all-met l b) at
        (come inquired asked offered served l b WAITING refl false x xs d (λ y e. e) right
        (λ g y gl here fresh. let u = some-unmet l g b y here fresh in (u, u)) (rw (all-met l b, same) (eqb_self (sum (l ∪ [] ∪ t)))))

    -- "In state 2 the last inquired one met makes DONE due."
    pub hears_last_active : (U : List ℕ) → ((x y : ℕ) → x ∈ U → y ∈ U → R.id_of x ≡ R.id_of y → x ≡ y) → t ⊆ U
        → (x : ℕ) (xs : List ℕ) (f : Bool) → let l = x ∷ xs in Distinct l → Worked R l → l ⊆ U → Apart l t
        → ids_of R.id_of l ⊆ inquired → inquired ⊆ ids_of R.id_of (l ∪ [] ∪ t)
        → Hear R (end t (put s ACTIVE f (led inquired asked offered served l [] false))) (map (element_of R) l)
        (end t (put s ACTIVE false (led inquired asked offered served l l true))) (done (sum (l ∪ [] ∪ t)) ∷ [])
    unfolding last_one says_done all_came checksum held entry place_in
    hears_last_active U no_shared tU x xs f d right lU lt lQ met =
        let l : List ℕ = x ∷ xs in
        let came : all (λ i. elem i (ids_of R.id_of (l ∪ [] ∪ t))) (inquired ∪ []) ≡ true = all_of _ (inquired ∪ []) (λ i e. met i (∪-nil i inquired e)) in
        rw came at
        (come inquired asked offered served l false ACTIVE refl f x xs d (λ y e. e) right
        (λ g y gl here fresh. (
          refl,
          rw (not_all (λ i. elem i (ids_of R.id_of (g ∪ [] ∪ t))) (inquired ∪ []) (R.id_of y)
              (in_∪-l (R.id_of y) inquired [] (lQ (R.id_of y) (in_ids R.id_of y l here)))
              (not_in (R.id_of y) (ids_of R.id_of (g ∪ [] ∪ t)) (λ k. lacks g y gl here fresh (ids_in_lem R.id_of (R.id_of y) (g ∪ [] ∪ t) k)))) refl,
        )) refl)
      where
        lacks : (g : List ℕ) (y : ℕ) → g ⊆ (x ∷ xs) → y ∈ x ∷ xs → (y ∈ g → ⊥) → (z : ℕ) × (z ∈ g ∪ [] ∪ t) × (R.id_of z ≡ R.id_of y) → ⊥
        lacks g y gl here fresh (z, m, e) = go (∪-in z (g ∪ []) t m)
          where
            same : z ∈ U → z ≡ y
            same zU = no_shared z y zU (lU y here) e

            go : (z ∈ g ∪ []) ⊎ (z ∈ t) → ⊥
            go (inl p) = let q = ∪-nil z g p in fresh (subst (λ (v : ℕ). v ∈ g) (same (lU z (gl z q))) q)
            go (inr p) = lt y here (subst (λ (v : ℕ). v ∈ t) (same (tU z p)) p)

    -- DONE with nothing unmet: "the checksum is compared", in Passive Decoding "DONE sent"
    pub hears_done : (q : ℕ) → Takes q (done 0) → (c : ℕ) (f b : Bool) (l : List ℕ) → (eqb q ACTIVE ≡ true → b ≡ true) → c ≡ sum (l ∪ [] ∪ t)
        → Hear R (end t (put s q f (led inquired asked offered served l l b))) (done c ∷ [])
        (end t (put s FINISHED false (led inquired asked offered served l l (eqb q PASSIVE || b)))) (cond (eqb q PASSIVE) (done (sum (l ∪ [] ∪ t)) ∷ []) [])
    unfolding tests by_slice act change waits agrees checksum held
    hears_done q takes c f b l timely same =
        let s1 : Session = put s q f (led inquired asked offered served l l b) in
        rw (all-met l b, and-false (eqb q PASSIVE), and-true (eqb q PASSIVE), append-nil) at
        (hear R t s1 (done c) 0 refl (admits s1 (done c) refl takes)
        (of_implies (eqb q ACTIVE) b timely, (rw (all-met l b, and-false (eqb q PASSIVE), same) (eqb_self (sum (l ∪ [] ∪ t))), tt)))

    -- "DONE in 3: 5 if a demand is unmet"
    pub hears_done-early : (c : ℕ) (f b : Bool) (x : ℕ) (xs : List ℕ) → let l = x ∷ xs in
        Hear R (end t (put s PASSIVE f (led inquired asked offered served l [] b))) (done c ∷ [])
        (end t (put (keeping c s) WAITING false (led inquired asked offered served l [] b))) []
    unfolding tests by_slice act change waits entry place_in
    hears_done-early c f b x xs =
        let s1 : Session = put s PASSIVE f (led inquired asked offered served (x ∷ xs) [] b) in
        let early = some-unmet (x ∷ xs) [] b x (elem-head x xs) (not_in_nil x) in
        rw early at (hear R t s1 (done c) 0 refl (admits s1 (done c) refl refl) (refl, (rw early refl, tt)))

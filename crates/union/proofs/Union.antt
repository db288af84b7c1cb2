-- Both ends finish with the union (document 02, Req 14), in the differential mode.
--
--   Finished R U h   an end has finished, has refused nothing, and holds exactly U
--   Meeting          the premises of Req 14
--   start            the two ends, with the first filter under way
--   union            in any order of deliveries both finish with the union after finitely many messages
--
-- One schedule is followed (Net's batches), in three cases: something is theirs, something is ours alone, nothing differs. Where demand 3's assumption
-- holds and there is no stopping set, the premises on the reading follow (Listing).
-- Assumes nothing.
use mathlib.Core.Path.{◌≡◌, refl, sym, ap, ◌∙◌, subst}
use mathlib.Core.Bool.{Bool, true, false, false≢true}
use mathlib.Core.List.{List, [], ◌∷◌, ◌++◌, map, append-nil}
use mathlib.Core.Logic.{◌⊎◌, inl, inr}
use Prim.Native.Nat.{ℕ, ◌≤◌}
use native.Mathlib.Nat.{le_trans}
use native.Mathlib.Omega.{arith}
use lib.ListN.{length}
use Rattle.bucket.specs.Lists.{Distinct}
use Rattle.filter.specs.Calls.{Read}
use Rattle.message.specs.Layout.{Content, offer, demand}
use Rattle.message.specs.Writing.{pieces, pieces_of}
use Rattle.message.proofs.PieceLaws.{pieces_whole}
use Rattle.filter.specs.Sets.{◌∪◌}
use Rattle.ledger.specs.Grid.{EXPECTING, ACTIVE, PASSIVE, FINISHED, place_in, entry}
use Rattle.ledger.specs.Session.{Session, no_ledger, is_complete, ours_in, theirs_in, own_filter, ids_of, hash_of, held, last_one, says_done}
use Rattle.filter.proofs.SetLaws.{◌∈◌, ◌⊆◌, not_in_nil, append_in, in_∪-l, in_∪-r, ∪-in, Asc, ∪-asc}
use Rattle.ledger.proofs.HeldLaws.{ids-part, ids-count}
use Rattle.union.proofs.Net.{Exchange, run, Quiet, Ends, any_order, batch_a, batch_b, stop, hears_then}
use Rattle.union.proofs.Ends.{Rules, element_of, End, end, next, says, put, keeping, led, sum, Worked, hears_as}
use Rattle.union.proofs.Hearing.{hears_inquiries, hears_offers, hears_demands, hears_elements, hears_last_active, hears_last_waiting, hears_done, hears_done-early}
use Rattle.union.proofs.Difference.{Lists, listed-ids, listed_in, listed-distinct, listed-apart, union_is}
use Rattle.union.proofs.FirstFilter.{read_all, opening, begun, read_filter}

pub record Finished (R : Rules) (U : List ℕ) (h : End) : Type 0 where
  pub refused : h.refused ≡ false
  pub state : h.session.state ≡ FINISHED
  pub holds : held R.id_of h.table h.session.ledger ≡ U

abbrev pub Net : Rules → Type 0
Net R = Exchange End Content

abbrev pub BothFinish : (R : Rules) → List ℕ → Net R → Type 0
BothFinish R U w = (e : Net R) × Quiet (next R) (says R) e × Finished R U e.a × Finished R U e.b × Ends (next R) (says R) e w

module _ (R : Rules) (A B : List ℕ) (ascA : Asc A) (ascB : Asc B) (few : length (A ∪ B) ≤ 4096)
    (no_shared : (x y : ℕ) → x ∈ A ∪ B → y ∈ A ∪ B → R.id_of x ≡ R.id_of y → x ≡ y) (known : Worked R (A ∪ B)) (sa sb : Session) where
  abbrev U : List ℕ
  U = A ∪ B

  a_u : A ⊆ U
  a_u x e = in_∪-l x A B e

  b_u : B ⊆ U
  b_u x e = in_∪-r x A B e

  swap_or : (x : ℕ) → (x ∈ A) ⊎ (x ∈ B) → (x ∈ B) ⊎ (x ∈ A)
  swap_or x (inl e) = inr e
  swap_or x (inr e) = inl e

  -- what A holds when B's listed elements have come, and the other way round
  held_a : (ours : List ℕ) (l : Lists R B A ours) → map (hash_of R.id_of B) ours ∪ [] ∪ A ≡ U
  held_a ours l = union_is R B A ours l U b_u a_u no_shared ascA (∪-asc A B ascB) (λ x e. swap_or x (∪-in x A B e))

  held_b : (theirs : List ℕ) (l : Lists R A B theirs) → map (hash_of R.id_of A) theirs ∪ [] ∪ B ≡ U
  held_b theirs l = union_is R A B theirs l U a_u b_u no_shared ascB (∪-asc A B ascB) (λ x e. ∪-in x A B e)

  -- where the reader has begun, and its first messages are under way
  abbrev begins : List ℕ → List ℕ → Net R
  begins ours theirs =
      record { a = end A (put sa PASSIVE true no_ledger); b = end B (begun R B ours theirs sb); to_a = opening R B ours theirs sa.salt; to_b = [] }

  -- something is theirs: INQUIRY, OFFER; OFFER, DEMAND; DEMAND, ELEMENT; ELEMENT; DONE; DONE
  main_inquired : (ours : List ℕ) (x : ℕ) (xs : List ℕ) → Lists R B A ours → Lists R A B (x ∷ xs) → BothFinish R U (begins ours (x ∷ xs))
  unfolding held ◌∪◌ pieces_of last_one says_done entry place_in
  main_inquired ours x xs lo lt =
      let theirs : List ℕ = x ∷ xs in
      let OA : List ℕ = map (hash_of R.id_of A) theirs in
      let OB : List ℕ = map (hash_of R.id_of B) ours in
      let cO : List (List ℕ) = pieces 1023 OB in
      let dA : Distinct OA = listed-distinct R A B theirs lt in
      let dB : Distinct OB = listed-distinct R B A ours lo in
      let in_a : OA ⊆ U = λ y e. a_u y (listed_in R A B theirs lt y e) in
      let in_b : OB ⊆ U = λ y e. b_u y (listed_in R B A ours lo y e) in
      let wanted : ids_of R.id_of OA ⊆ theirs = λ y e. subst (λ (l : List ℕ). y ∈ l) (listed-ids R A B theirs lt) e in
      let real : theirs ⊆ ids_of R.id_of U = λ y e. ids-part R.id_of A U a_u y (lt.has y e) in
      let eS : sum (OA ∪ [] ∪ B) ≡ sum (OB ∪ [] ∪ A) = ap sum (held_b theirs lt ∙ sym (held_a ours lo)) in
      -- A hears INQUIRY and OFFER
      let (f1, ds, ed, h1) = hears_inquiries R A sa theirs lt.apart lt.has (pieces 8190 theirs) (pieces_whole 8190 theirs (omega arith)) true in
      let (f2, es, ee, h2) =
      hears_offers R A sa U no_shared few a_u PASSIVE refl false [] theirs OA [] OB dB in_b (listed-apart R B A ours lo) (λ y e. absurd (not_in_nil y e))
      (λ p. absurd (false≢true p))
      cO (pieces_whole 1023 OB (omega arith)) f1 in
      -- B hears OFFER and DEMAND
      let (f3, gs, eg, h3) = hears_offers R B sb U no_shared few b_u ACTIVE refl false theirs [] OB [] OA dA in_a (listed-apart R A B theirs lt) real
      (λ p. wanted) ds ed false in
      let (f4, h4) = hears_demands R B sb ACTIVE refl false theirs [] OB OA [] OB dB (λ y e. e) es ee f3 in
      -- A hears DEMAND and ELEMENT
      let (f5, h5) = hears_demands R A sa PASSIVE refl false [] theirs OA OB [] OA dA (λ y e. e) gs eg f2 in
      let (f6, h6) = hears_elements R A sa [] theirs OA OA OB false PASSIVE refl OB dB (λ y e. e) (λ y e. known y (in_b y e)) (λ g p. (refl, refl)) f5 in
      -- B hears ELEMENT
      let h7 =
      hears_last_active R B sb theirs [] OB OB U no_shared b_u (hash_of R.id_of A x) (map (hash_of R.id_of A) xs) f4 dA (λ y e. known y (in_a y e)) in_a
      (listed-apart R A B theirs lt) wanted
      (λ y e. rw (held_b theirs lt) (real y e)) in
      -- A hears DONE, and then B
      let h8 = hears_done R A sa [] theirs OA OA PASSIVE refl (sum (OA ∪ [] ∪ B)) f6 false OB (λ p. absurd (false≢true p)) eS in
      let h9 = hears_done R B sb theirs [] OB OB ACTIVE refl (sum (OB ∪ [] ∪ A)) false true OA (λ p. refl) (sym eS) in
      let e : Net R = record {
        a = end A (put sa FINISHED false (led [] theirs OA OA OB OB true));
        b = end B (put sb FINISHED false (led theirs [] OB OB OA OA true));
        to_a = [];
        to_b = [];
      } in (
        e,
        (refl, refl),
        record { refused = refl; state = refl; holds = held_a ours lo },
        record { refused = refl; state = refl; holds = held_b theirs lt },
        rw (append-nil (map offer cO))
            (batch_a (next R) (says R) (hears_then (next R) (says R) h1 h2) (batch_b (next R) (says R) (hears_then (next R) (says R) h3 h4)
            (batch_a (next R) (says R) (hears_as R refl (append-nil (map (element_of R) OA)) (hears_then (next R) (says R) h5 h6))
            (batch_b (next R) (says R) h7 (batch_a (next R) (says R) h8 (batch_b (next R) (says R) h9 (0, stop refl))))))),
      )

  -- something is ours alone: OFFER, DONE; DEMAND; ELEMENT; DONE
  main_offered : (y : ℕ) (ys : List ℕ) → Lists R B A (y ∷ ys) → Lists R A B [] → BothFinish R U (begins (y ∷ ys) [])
  unfolding held ◌∪◌ pieces_of entry place_in
  main_offered y ys lo lt =
      let ours : List ℕ = y ∷ ys in
      let OB : List ℕ = map (hash_of R.id_of B) ours in
      let h : ℕ = hash_of R.id_of B y in
      let hs : List ℕ = map (hash_of R.id_of B) ys in
      let c : ℕ = sum B in
      let dB : Distinct OB = listed-distinct R B A ours lo in
      let in_b : OB ⊆ U = λ z e. b_u z (listed_in R B A ours lo z e) in
      let eS : c ≡ sum (OB ∪ [] ∪ A) = ap sum (held_b [] lt ∙ sym (held_a ours lo)) in
      let (f1, es, ee, h1) =
      hears_offers R A sa U no_shared few a_u PASSIVE refl false [] [] [] [] OB dB in_b (listed-apart R B A ours lo) (λ z e. absurd (not_in_nil z e))
      (λ p. absurd (false≢true p))
      (pieces 1023 OB) (pieces_whole 1023 OB (omega arith)) true in
      let h2 = hears_done-early R A sa [] [] [] [] c f1 false h hs in
      let (f3, h3) = hears_demands R B sb ACTIVE refl true [] [] OB [] [] OB dB (λ z e. e) es ee false in
      let h4 = hears_last_waiting R A (keeping c sa) [] [] [] [] h hs false dB (λ z e. known z (in_b z e)) eS in
      let h5 = hears_done R B sb [] [] OB OB ACTIVE refl (sum (OB ∪ [] ∪ A)) f3 true [] (λ p. refl) (sym eS) in
      let e : Net R = record {
        a = end A (put (keeping c sa) FINISHED false (led [] [] [] [] OB OB true));
        b = end B (put sb FINISHED false (led [] [] OB OB [] [] true));
        to_a = [];
        to_b = [];
      } in (
        e,
        (refl, refl),
        record { refused = refl; state = refl; holds = held_a ours lo },
        record { refused = refl; state = refl; holds = held_b [] lt },
        batch_a (next R) (says R) (hears_as R refl (append-nil (map demand es)) (hears_then (next R) (says R) h1 h2))
            (batch_b (next R) (says R) h3 (batch_a (next R) (says R) h4 (batch_b (next R) (says R) h5 (0, stop refl)))),
      )

  -- nothing differs: DONE; DONE
  main_same : Lists R B A [] → Lists R A B [] → BothFinish R U (begins [] [])
  unfolding held ◌∪◌ pieces_of entry place_in
  main_same lo lt =
      let eS : sum B ≡ sum A = ap sum (held_b [] lt ∙ sym (held_a [] lo)) in
      let h1 = hears_done R A sa [] [] [] [] PASSIVE refl (sum B) true false [] (λ p. absurd (false≢true p)) eS in
      let h2 = hears_done R B sb [] [] [] [] ACTIVE refl (sum A) false true [] (λ p. refl) (sym eS) in
      let e : Net R = record {
        a = end A (put sa FINISHED false (led [] [] [] [] [] [] true));
        b = end B (put sb FINISHED false (led [] [] [] [] [] [] true));
        to_a = [];
        to_b = [];
      } in (
        e,
        (refl, refl),
        record { refused = refl; state = refl; holds = held_a [] lo },
        record { refused = refl; state = refl; holds = held_b [] lt },
        batch_a (next R) (says R) h1 (batch_b (next R) (says R) h2 (0, stop refl)),
      )

  main : (ours theirs : List ℕ) → Lists R B A ours → Lists R A B theirs → BothFinish R U (begins ours theirs)
  main ours (x ∷ xs) lo lt = main_inquired ours x xs lo lt
  main (y ∷ ys) [] lo lt = main_offered y ys lo lt
  main [] [] lo lt = main_same lo lt

-- ---- Req 14

-- the premises, in document 02's words. "messages arrive in order, complete and once" is Net; "each caller .. hands back what it got, and sends all that
-- is due, in order, and nothing else" is next and says (Ends); "lends enough" and "every slip fits an ELEMENT" are of memory and bytes (Called)
pub record Meeting (R : Rules) (A B : List ℕ) (sa sb : Session) (size : ℕ) : Type 0 where
  -- "Two houses start with good tables and one derivation": one R.id_of for both
  pub table_a : Asc A
  pub table_b : Asc B
  -- "no two different slips of the union share an ID"
  pub no_shared : (x y : ℕ) → x ∈ A ∪ B → y ∈ A ∪ B → R.id_of x ≡ R.id_of y → x ≡ y
  -- "the union is at most 4,096"
  pub few : length (A ∪ B) ≤ 4096
  -- the hash that a caller works out for a content is its element's
  pub known : Worked R (A ∪ B)
  -- "the first filter, made by the rules from its sender's table at the salt that house's session holds": of any size
  pub in_range : size ≤ 4096
  -- "reads as complete and its listing is the true difference"
  pub complete : is_complete (read_all R B sb size sa.salt (own_filter (ids_of R.id_of A) size sa.salt)) ≡ true
  pub ours_true : Lists R B A (ours_in (read_all R B sb size sa.salt (own_filter (ids_of R.id_of A) size sa.salt)))
  pub theirs_true : Lists R A B (theirs_in (read_all R B sb size sa.salt (own_filter (ids_of R.id_of A) size sa.salt)))

abbrev pub start : (R : Rules) → List ℕ → List ℕ → Session → Session → ℕ → Net R
start R A B sa sb size =
    record {
      a = end A (put sa PASSIVE true no_ledger);
      b = end B (put sb EXPECTING false no_ledger);
      to_a = [];
      to_b = own_filter (ids_of R.id_of A) size sa.salt;
    }

pub both_finish : (R : Rules) (A B : List ℕ) (sa sb : Session) (size : ℕ) → Meeting R A B sa sb size → BothFinish R (A ∪ B) (start R A B sa sb size)
both_finish R A B sa sb size m =
    let r : Read = read_all R B sb size sa.salt (own_filter (ids_of R.id_of A) size sa.salt) in
    let fits = le_trans (ids-count R.id_of (ids_of R.id_of B ++ theirs_in r) (A ∪ B) (λ x e. in_u x (append_in x (ids_of R.id_of B) (theirs_in r) e)))
    m.few in
    let (s', h0) = read_filter R B size sa.salt (ids_of R.id_of A) m.in_range sb m.complete fits in
    let (e, q, fa, fb, ends) = main R A B m.table_a m.table_b m.few m.no_shared m.known sa s' (ours_in r) (theirs_in r) m.ours_true
    m.theirs_true in
    (e, q, fa, fb, batch_b (next R) (says R) h0 ends)
  where
    b_u : B ⊆ (A ∪ B)
    b_u x e = in_∪-r x A B e

    in_u : (x : ℕ) → (x ∈ ids_of R.id_of B) ⊎ (x ∈ theirs_in (read_all R B sb size sa.salt (own_filter (ids_of R.id_of A) size sa.salt)))
        → x ∈ ids_of R.id_of (A ∪ B)
    in_u x (inl e) = ids-part R.id_of B (A ∪ B) b_u x e
    in_u x (inr e) = ids-part R.id_of A (A ∪ B) (λ y m. in_∪-l y A B m) x (m.theirs_true.has x e)

-- "both sessions reach Finished after finitely many messages, and at each the slips held are exactly the union": after n deliveries in any order, with
-- nothing refused and nothing under way
pub union : (R : Rules) (A B : List ℕ) (sa sb : Session) (size : ℕ) → Meeting R A B sa sb size
    → (n : ℕ) × ((order : List Bool) → n ≤ length order
    → Finished R (A ∪ B) (run (next R) (says R) order (start R A B sa sb size)).a
    × Finished R (A ∪ B) (run (next R) (says R) order (start R A B sa sb size)).b
    × Quiet (next R) (says R) (run (next R) (says R) order (start R A B sa sb size)))
union R A B sa sb size m =
    let (e, q, fa, fb, r) = both_finish R A B sa sb size m in
    (r.0, λ order l. rw (any_order (next R) (says R) e q r.0 (start R A B sa sb size) r.1 order l) (fa, fb, q))

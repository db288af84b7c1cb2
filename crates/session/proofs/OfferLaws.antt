-- An offered hash judged, and the walk of an OFFER as it goes. Assumes nothing.
use mathlib.Core.Path.{◌≡◌, refl, sym, ap, ap₂, subst, ◌∙◌}
use mathlib.Core.Bool.{Bool, true, false, not, ◌&&◌, cond, ◌||◌, true≢false, false≢true, or_comm, and-eq-true_iff}
use mathlib.Core.List.{List, [], ◌∷◌, ◌++◌, map}
use Prim.Native.Nat.{ℕ, ◌+◌, ◌*◌, ◌≤◌, ◌<◌, ◌^◌}
use native.Mathlib.Omega.{arith}
use lib.Dec.{eqb, ltb}
use lib.ListN.{length, get_or, take, length-map}
use borrow.Author.Tests.{eqb-true, eq-eqb}
use Rattle.bucket.specs.Digits.{groups, packed}
use Rattle.bucket.specs.Lists.{over, elem}
use Rattle.bucket.proofs.ListLaws.{elem_at, elem_last, elem_cases, elem-nil}
use Rattle.filter.specs.Table.{hashes_of, first_eight, ids_of, position, holds}
use Rattle.filter.proofs.OrderLaws.{same_test, ascending-distinct, map_at}
use Rattle.filter.proofs.BisectLaws.{held}
use Rattle.ledger.proofs.BelowLaws.{hashes-written}
use Rattle.session.specs.declared.offering.Item.{Item}
use Rattle.session.specs.declared.offering.Item.TheVariants.{Known, New, Bad}
use Rattle.session.specs.Moves.{place_of, hash_at_place, item_in, hash_into, News, news_of, is_good, new_one, new_all}
use Rattle.filter.specs.Sets.{insert}
use Rattle.session.specs.Ready.{Offered}
use Rattle.std.specs.Prelude.{Ok}
use Rattle.ledger.proofs.PointLaws.{insert-length}
use Rattle.session.proofs.PlaceLaws.{holds-within, place_here}
use Rattle.filter.proofs.SetLaws.{◌∈◌, clash, not_in_nil, elem-insert}
use Rattle.filter.proofs.ListLaws.{in_map, map_in, map-distinct}
use Rattle.session.proofs.StoreLaws.{Fresh, fresh-first, fresh-next, known-ids, hash_inserted}
use Rattle.session.proofs.AskLaws.{Going, going_start, going_next, going-stops, going_end, Gathering, gathering-start, gathering-next}

-- ---- one hash judged

-- by five tests: whether its ID has a place, its hash is the one there, its ID is new already, its hash is that one, it was to be inquired
abbrev judged : (a b c d e : Bool) → Item
judged a b c d e = cond a (cond b Known Bad) (cond c (cond d Known Bad) (cond e Bad New))

module _ (table known fresh I : List ℕ) (active : Bool) (h : ℕ) {id p : ℕ} (read : id ≡ first_eight h) (is : p ≡ place_of (ids_of first_eight table) (ids_of first_eight known) id) where
  pub item_judged : {a b c d e : Bool} → ltb p 8192 ≡ a → eqb (hash_at_place (hashes_of table) (hashes_of known) p) h ≡ b
      → holds (ids_of first_eight fresh) id ≡ c → eqb (get_or (hashes_of fresh) (position (ids_of first_eight fresh) id) 0) h ≡ d
      → active && not (holds I id) ≡ e
      → judged a b c d e ≡ item_in (hashes_of table) (hashes_of known) (hashes_of fresh) I active h
  unfolding item_in ids_of
  item_judged ea eb ec ed ee =
      rw (← ea, ← eb, ← ec, ← ed, ← ee)
      (ap₂ (λ (x q : ℕ).
      judged (ltb q 8192) (eqb (hash_at_place (hashes_of table) (hashes_of known) q) h)
      (holds (map first_eight (hashes_of fresh)) x) (eqb (get_or (hashes_of fresh) (position (map first_eight (hashes_of fresh)) x) 0) h)
      (active && not (holds I x)))
      read (place_here table known h read is))

-- ---- the new ones so far, in their order and ascending

pub record Among (g F : List ℕ) : Type 0 where
  pub fresh : Fresh [] F
  pub members : (x : ℕ) → elem x F ≡ elem x g

pub among-nil : Among [] []
among-nil = record {
  fresh = record {
    known = λ x e. absurd (not_in_nil x e);
    hashes = λ x e. absurd (not_in_nil x e);
    ascends = refl;
    distinct = tt;
    apart = λ x e k. not_in_nil x e;
    few = omega arith;
  };
  members = λ x. refl;
}

module _ {g F : List ℕ} (s : Among g F) where
  among-ids : (y : ℕ) → elem y (map first_eight g) ≡ holds (map first_eight F) y
  among-ids y =
      same_test (elem y (map first_eight g)) (elem y (map first_eight F))
      (λ e. let (x, m, q) = map_in first_eight y g e in rw q at (in_map first_eight x F (s.members x ∙ m)))
      (λ e. let (x, m, q) = map_in first_eight y F e in rw q at (in_map first_eight x g (sym (s.members x) ∙ m)))
      ∙ sym (held (map first_eight F) y s.fresh.ascends)

  -- the one with this ID is this one exactly if this one is among them
  among_same : (h : ℕ) → holds (map first_eight F) (first_eight h) ≡ true → elem h g ≡ eqb (get_or F (position (map first_eight F) (first_eight h)) 0) h
  among_same h there =
      same_test (elem h g) (eqb v h) (λ e. eq-eqb v h (map-distinct first_eight F (ascending-distinct (map first_eight F) s.fresh.ascends) v h inside (s.members h ∙ e) id))
      (λ e. sym (s.members h) ∙ subst (λ (x : ℕ). x ∈ F) (eqb-true v h e) inside)
    where
      q : ℕ
      q = position (map first_eight F) (first_eight h)

      v : ℕ
      v = get_or F q 0

      less : q < length F
      less = rw (length-map F first_eight) at (holds-within (map first_eight F) (first_eight h) there)

      inside : v ∈ F
      inside = elem_at F q less

      id : first_eight v ≡ first_eight h
      id =
          sym (map_at first_eight F q less)
          ∙ eqb-true (get_or (map first_eight F) q 0) (first_eight h)
          ((and-eq-true_iff (ltb q (length (map first_eight F))) (eqb (get_or (map first_eight F) q 0) (first_eight h))).0 there).1

  module _ (h : ℕ) (short : h < 2 ^ 512) (new : holds (map first_eight F) (first_eight h) ≡ false) (few : length F < 4096) where
    new-among : Fresh (h ∷ []) F
    new-among = record {
      known = s.fresh.known;
      hashes = λ x e. elem_cases (λ (y : ℕ). y < 2 ^ 512) x h [] e short (λ k. absurd (not_in_nil x k));
      ascends = s.fresh.ascends;
      distinct = (elem-nil (first_eight h), tt);
      apart = λ x e k. elem_cases (λ (y : ℕ). y ∈ map first_eight F → ⊥) x (first_eight h) [] e
          (λ r. clash r (sym (held (map first_eight F) (first_eight h) s.fresh.ascends) ∙ new)) (λ r. absurd (not_in_nil x r)) k;
      few = omega arith;
    }

    pub among_next : Among (g ++ h ∷ []) (insert h F)
    among_next = record {
      fresh = fresh-next new-among;
      members = λ x. elem-insert x h F ∙ ap (λ (t : Bool). eqb x h || t) (s.members x) ∙ or_comm (eqb x h) (elem x g) ∙ sym (elem_last x h g);
    }

-- ---- one offered hash, by what it was judged

abbrev acts : Item → ℕ → List ℕ → News
acts Known h g = news_of true g
acts New h g = news_of true (g ++ h ∷ [])
acts Bad h g = news_of false g

abbrev is_new : Item → Bool
is_new Known = false
is_new New = true
is_new Bad = false

module _ (t K I : List ℕ) (active : Bool) (h : ℕ) (F : List ℕ) where
  new_apart : item_in t K F I active h ≡ New → holds (map first_eight F) (first_eight h) ≡ false
  unfolding item_in
  new_apart e =
      let p = place_of (map first_eight t) (map first_eight K) (first_eight h) in
      go (ltb p 8192) (eqb (hash_at_place t K p) h) (holds (map first_eight F) (first_eight h))
      (eqb (get_or F (position (map first_eight F) (first_eight h)) 0) h) (active && not (holds I (first_eight h))) e
    where
      go : (a b c d e : Bool) → judged a b c d e ≡ New → c ≡ false
      go a b false d e q = refl
      go true true true d e q = absurd (false≢true (ap is_new q))
      go true false true d e q = absurd (false≢true (ap is_new q))
      go false b true true e q = absurd (false≢true (ap is_new q))
      go false b true false e q = absurd (false≢true (ap is_new q))

  acted : (g : List ℕ) → Among g F → acts (item_in t K F I active h) h g ≡ new_one first_eight t K I active h (news_of true g)
  unfolding item_in new_one
  acted g s =
      let p = place_of (map first_eight t) (map first_eight K) (first_eight h) in
      go (ltb p 8192) (eqb (hash_at_place t K p) h) (holds (map first_eight F) (first_eight h)) (elem (first_eight h) (map first_eight g))
      (eqb (get_or F (position (map first_eight F) (first_eight h)) 0) h) (elem h g) (active && not (holds I (first_eight h)))
      (among-ids s (first_eight h)) (among_same s h)
    where
      go : (a b c c' d d' e : Bool) → c' ≡ c → (c ≡ true → d' ≡ d)
          → acts (judged a b c d e) h g
          ≡ cond a (cond b (news_of true g) (news_of false g)) (cond c' (cond d' (news_of true g) (news_of false g)) (cond e (news_of false g) (news_of true (g ++ h ∷ []))))
      go true true c c' d d' e q f = refl
      go true false c c' d d' e q f = refl
      go false b true false d d' e q f = absurd (false≢true q)
      go false b false true d d' e q f = absurd (true≢false q)
      go false b true true true true e q f = refl
      go false b true true false false e q f = refl
      go false b true true true false e q f = absurd (false≢true (f refl))
      go false b true true false true e q f = absurd (true≢false (f refl))
      go false b false false d d' true q f = refl
      go false b false false d d' false q f = refl

-- ---- an OFFER

pub record Offering (table known I : List ℕ) (active : Bool) (hs fresh₀ hashes₀ fresh hashes : List ℕ) (m : ℕ) (left : List ℕ) : Type 0 where
  pub gathered : List ℕ
  pub sorted : List ℕ
  pub among : Among gathered sorted
  pub going : Going is_good (new_one first_eight (hashes_of table) (hashes_of known) I active) hs (news_of true []) left (news_of true gathered)
  pub gathering : Gathering gathered hashes₀ hashes m
  pub count : m ≡ length sorted
  pub few : m + length left ≤ length hs
  pub same : length fresh ≡ length fresh₀
  pub bytes : fresh ≡ over 0 (packed 512 sorted) fresh₀

pub offering_start : (table known I : List ℕ) (active : Bool) (hs fresh hashes : List ℕ) → Offering table known I active hs fresh hashes fresh hashes 0 hs
offering_start table known I active hs fresh hashes = record {
  gathered = [];
  sorted = [];
  among = among-nil;
  going = going_start is_good (new_one first_eight (hashes_of table) (hashes_of known) I active) hs (news_of true []);
  gathering = gathering-start hashes;
  count = refl;
  few = omega arith;
  same = refl;
  bytes = (gathering-start fresh).bytes;
}

module _ {table known I : List ℕ} {active : Bool} {hs fresh₀ hashes₀ fresh hashes : List ℕ} {m : ℕ} {left : List ℕ}
    (s : Offering table known I active hs fresh₀ hashes₀ fresh hashes m left) where
  pub offering_end : left ≡ [] → Offered (new_all first_eight (hashes_of table) (hashes_of known) I active hs) (Ok m) hashes hashes₀
  offering_end none =
      let all = going_end s.going none in
      record {
        good = sym (ap (λ (w : News). w.fine) all);
        count = s.gathering.count ∙ ap (λ (w : News). length w.hashes) all;
        bytes-are = s.gathering.bytes ∙ ap (λ (w : News). over 0 (packed 512 w.hashes) hashes₀) all;
      }

  module _ {h : ℕ} {rest : List ℕ} {r : Item} (item : left ≡ h ∷ rest) (many : length hs ≤ 1023) (room : 65472 ≤ length fresh₀)
      (judge : r ≡ item_in (hashes_of table) (hashes_of known) (hashes_of (take (64 * m) fresh)) I active h) where
    one_more : m + 1 + length rest ≤ length hs
    one_more = omega (arith, s.few, ap length item)

    judged-sorted : r ≡ item_in (hashes_of table) (hashes_of known) s.sorted I active h
    judged-sorted =
        judge
        ∙ ap (λ (F : List ℕ). item_in (hashes_of table) (hashes_of known) F I active h)
        (ap₂ (λ (k : ℕ) (q : List ℕ). hashes_of (take (64 * k) q)) s.count s.bytes
        ∙ hashes-written s.sorted fresh₀ s.among.fresh.known (omega (arith, s.count, one_more)))

    acted_by : {q : Item} → r ≡ q → acts q h s.gathered ≡ new_one first_eight (hashes_of table) (hashes_of known) I active h (news_of true s.gathered)
    acted_by e =
        ap (λ (q : Item). acts q h s.gathered) (sym e ∙ judged-sorted)
        ∙ acted (hashes_of table) (hashes_of known) I active h s.sorted s.gathered s.among

    pub offering_known : r ≡ Known → Offering table known I active hs fresh₀ hashes₀ fresh hashes m rest
    offering_known e = record {
      gathered = s.gathered;
      sorted = s.sorted;
      among = s.among;
      going = going_next s.going item (acted_by e) refl;
      gathering = s.gathering;
      count = s.count;
      few = omega (arith, one_more);
      same = s.same;
      bytes = s.bytes;
    }

    pub offering_bad : r ≡ Bad → (new_all first_eight (hashes_of table) (hashes_of known) I active hs).fine ≡ false
    offering_bad e = sym (ap (λ (w : News). w.fine) (going-stops s.going item (acted_by e) refl))

    -- its bytes bs were put in at place p
    pub offering_new : {p : ℕ} {bs fresh' hashes' : List ℕ} → r ≡ New → 65472 ≤ length hashes₀ → h < 2 ^ 512 → groups 8 64 h ≡ bs
        → p ≡ position (ids_of first_eight (take (64 * m) fresh)) (first_eight h) → fresh' ≡ hash_into m p bs fresh → length fresh' ≡ length fresh
        → hashes' ≡ over (64 * m) bs hashes → Offering table known I active hs fresh₀ hashes₀ fresh' hashes' (m + 1) rest
    offering_new {p = p} {fresh' = fresh'} e room-h short bytes is put kept copied =
        record {
          gathered = s.gathered ++ h ∷ [];
          sorted = insert h s.sorted;
          among = among_next s.among h short apart space;
          going = going_next s.going item (acted_by e) refl;
          gathering = gathering-next h s.gathering (omega (arith, one_more)) (copied ∙ ap (λ (b : List ℕ). over (64 * m) b hashes) (sym bytes));
          count = omega (arith, s.count, insert-length h s.sorted (fresh-first fits));
          few = one_more;
          same = kept ∙ s.same;
          bytes = into;
        }
      where
        apart : holds (map first_eight s.sorted) (first_eight h) ≡ false
        apart = new_apart (hashes_of table) (hashes_of known) I active h s.sorted (sym judged-sorted ∙ e)

        space : length s.sorted < 4096
        space = omega (arith, s.count, one_more)

        fits : Fresh (h ∷ []) s.sorted
        fits = new-among s.among h short apart space

        wide : 64 * length s.sorted + 64 ≤ length fresh₀
        wide = omega (arith, s.count, one_more)

        place : p ≡ position (map first_eight s.sorted) (first_eight h)
        place =
            is
            ∙ ap₂ (λ (k : ℕ) (q : List ℕ). position (ids_of first_eight (take (64 * k) q)) (first_eight h)) s.count s.bytes
            ∙ ap (λ (q : List ℕ). position q (first_eight h)) (known-ids fits fresh₀ wide)

        into : fresh' ≡ over 0 (packed 512 (insert h s.sorted)) fresh₀
        into =
            put
            ∙ ap₂ (λ (b q : List ℕ). hash_into m p b q) (sym bytes) s.bytes
            ∙ ap₂ (λ (k q : ℕ). hash_into k q (groups 8 64 h) (over 0 (packed 512 s.sorted) fresh₀)) s.count place
            ∙ hash_inserted fits fresh₀ wide

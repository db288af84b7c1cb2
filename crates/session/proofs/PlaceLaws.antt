-- Places: where searches in the table and among the demanded hashes end, what stands at a place, and 64 bytes compared. Assumes nothing.
use mathlib.Core.Path.{◌≡◌, refl, sym, ap, ap₂, ◌∙◌}
use mathlib.Core.Bool.{Bool, true, false, not, ◌&&◌, cond, and-eq-true_iff}
use mathlib.Core.List.{List, map}
use Prim.Native.Nat.{ℕ, ◌+◌, ◌-◌, ◌*◌, ◌/◌, ◌^◌, ◌≤◌, ◌<◌}
use native.Mathlib.Omega.{arith}
use lib.Dec.{eqb, ltb, leb}
use lib.ListN.{length, get_or}
use lib.Seq.{take_all}
use borrow.Author.Tests.{eqb-true, lt-ltb, le-ltb, ltb-true, le-leb, lt-leb, eq-eqb, ne_eqb}
use Rattle.bucket.specs.Digits.{joined, groups, Below}
use Rattle.bucket.specs.Lists.{part}
use Rattle.bucket.proofs.DigitLaws.{groups-below, groups-joined, joined-groups, groups-length}
use Rattle.message.proofs.RoundLaws.{hashes-below}
use Rattle.bucket.proofs.OverLaws.{part_length}
use Rattle.bucket.proofs.TestLaws.{and_fails, and_holds, cond-kept, cond-made}
use Rattle.filter.specs.Table.{hashes_of, first_eight, ids_of, is_table, position, holds}
use Rattle.filter.proofs.BisectLaws.{holds-there, holds-past}
use Rattle.filter.proofs.TableLaws.{hashes-length, ids-length, table-whole, table-count, first_eight_part}
use Rattle.message.proofs.WholeLaws.{part-below}
use Rattle.ledger.specs.Memory.{is_met}
use Rattle.session.specs.Moves.{place_of, is_held_at, hash_at_place, place_of_hash, is_unmet_at, unmet_at}
use Rattle.session.specs.Ready.{Placed}
use Rattle.filter.proofs.OrderLaws.{same_test}
use Rattle.std.specs.Bool.{Decides}
use Rattle.std.specs.Cmp.Lexicographic.{pointwise}
use Rattle.std.proofs.lemmas.Slice.Eq.{bytes_eq-Decides}
use native.Mathlib.Nat.{mod-eq_of_lt}

-- ---- a search for an ID

module _ (t : List ℕ) (x : ℕ) {p n : ℕ} (is : p ≡ position (ids_of first_eight t) x) (all : n ≡ length (hashes_of t)) where
  inside : p < n → p < length (ids_of first_eight t)
  inside h = omega (arith, h, all, hashes-length t, ids-length first_eight t)

  pub found : {v : ℕ} → p < n → v ≡ get_or (ids_of first_eight t) p 0 → v ≡ x → holds (ids_of first_eight t) x ≡ true
  found h e same =
      sym (holds-there (ids_of first_eight t) x is (inside h)) ∙ eq-eqb (get_or (ids_of first_eight t) p 0) x (sym e ∙ same)

  pub not_found : {v : ℕ} → p < n → v ≡ get_or (ids_of first_eight t) p 0 → (v ≡ x → ⊥) → holds (ids_of first_eight t) x ≡ false
  not_found h e other =
      sym (holds-there (ids_of first_eight t) x is (inside h)) ∙ ne_eqb (get_or (ids_of first_eight t) p 0) x (λ q. other (e ∙ q))

  pub not_found-past : n ≤ p → holds (ids_of first_eight t) x ≡ false
  not_found-past h =
      sym (holds-past (ids_of first_eight t) x is (omega (arith, h, all, hashes-length t, ids-length first_eight t)))

-- ---- the place of an ID

module _ (ts ks : List ℕ) (x : ℕ) where
  pub place-first : {p : ℕ} → holds ts x ≡ true → p ≡ position ts x → p ≡ place_of ts ks x
  unfolding place_of
  place-first h is = is ∙ sym (ap (λ (t : Bool). cond t (position ts x) (cond (holds ks x) (4096 + position ks x) 8192)) h)

  pub place_second : {p : ℕ} → holds ts x ≡ false → holds ks x ≡ true → p ≡ position ks x → 4096 + p ≡ place_of ts ks x
  unfolding place_of
  place_second h g is =
      ap (λ (p : ℕ). 4096 + p) is
      ∙ sym (ap₂ (λ (t u : Bool). cond t (position ts x) (cond u (4096 + position ks x) 8192)) h g)

  pub place_none : holds ts x ≡ false → holds ks x ≡ false → 8192 ≡ place_of ts ks x
  unfolding place_of
  place_none h g = sym (ap₂ (λ (t u : Bool). cond t (position ts x) (cond u (4096 + position ks x) 8192)) h g)

pub table-short : (t : List ℕ) → is_table first_eight t ≡ true → length t ≤ 262144
table-short t ok = omega (arith, table-whole t ok, table-count t ok)

pub holds-within : (l : List ℕ) (x : ℕ) → holds l x ≡ true → position l x < length l
holds-within l x h =
    ltb-true (position l x) (length l) ((and-eq-true_iff (ltb (position l x) (length l)) (eqb (get_or l (position l x) 0) x)).0 h).0

module _ (table known : List ℕ) (p : ℕ) where
  pub placed_first : p < 4096 → 64 * p + 64 ≤ length table → Placed table known p
  placed_first h g = rw (lt-ltb p 4096 h) g

  pub placed_second : 4096 ≤ p → 64 * (p - 4096) + 64 ≤ length known → Placed table known p
  placed_second h g = rw (le-ltb p 4096 h) g

  pub first-placed : p < 4096 → Placed table known p → 64 * p + 64 ≤ length table
  first-placed h w = rw (lt-ltb p 4096 h) at w

  pub second_placed : 4096 ≤ p → Placed table known p → 64 * (p - 4096) + 64 ≤ length known
  second_placed h w = rw (le-ltb p 4096 h) at w

-- a search that found ends inside
pub index-within : (t : List ℕ) (x : ℕ) {i : ℕ} → (i ≡ position (ids_of first_eight t) x) × (holds (ids_of first_eight t) x ≡ true) → i < length t / 64
index-within t x f = omega (arith, f.0, holds-within (ids_of first_eight t) x f.1, ids-length first_eight t)

-- a place found is a place of the table or of the demanded
module _ (table known : List ℕ) (x : ℕ) (few-t : length table ≤ 262144) (few-k : length known ≤ 262144) where
  pub place-placed : {p : ℕ} → p ≡ place_of (ids_of first_eight table) (ids_of first_eight known) x → p < 8192 → Placed table known p
  unfolding place_of
  place-placed {p} e h = go (holds ts x) refl (holds ks x) refl e
    where
      ts : List ℕ
      ts = ids_of first_eight table

      ks : List ℕ
      ks = ids_of first_eight known

      go : (t : Bool) → holds ts x ≡ t → (u : Bool) → holds ks x ≡ u
          → p ≡ cond t (position ts x) (cond u (4096 + position ks x) 8192) → Placed table known p
      go true f u g e =
          let l : position ts x < length ts = holds-within ts x f in
          placed_first table known p (omega (arith, l, e, few-t, ids-length first_eight table)) (omega (arith, l, e, ids-length first_eight table))
      go false f true g e =
          let l : position ks x < length ks = holds-within ks x g in
          placed_second table known p (omega (arith, e)) (omega (arith, l, e, ids-length first_eight known))
      go false f false g e = absurd (omega (arith, e, h))

-- ---- what is held

module _ (M : List ℕ) (p : ℕ) where
  pub held_first : p < 4096 → true ≡ is_held_at M p
  unfolding is_held_at
  held_first h = sym (ap (λ (t : Bool). cond t true (cond (ltb p 8192) (is_met (get_or M p 0)) false)) (lt-ltb p 4096 h))

  pub held_second : 4096 ≤ p → p < 8192 → is_met (get_or M p 0) ≡ is_held_at M p
  unfolding is_held_at
  held_second h g = sym (ap₂ (λ (t u : Bool). cond t true (cond u (is_met (get_or M p 0)) false)) (le-ltb p 4096 h) (lt-ltb p 8192 g))

  pub held_none : 4096 ≤ p → 8192 ≤ p → false ≡ is_held_at M p
  unfolding is_held_at
  held_none h g = sym (ap₂ (λ (t u : Bool). cond t true (cond u (is_met (get_or M p 0)) false)) (le-ltb p 4096 h) (le-ltb p 8192 g))

-- ---- a demand that is unmet

module _ (M : List ℕ) (p : ℕ) where
  -- of no place, of one of the table, of one that is met
  pub unmet_outside : p < 4096 → unmet_at M p ≡ 8192
  unfolding unmet_at
  unmet_outside l = sym (cond-kept p 8192 (ap (λ (b : Bool). b && (ltb p 8192 && not (is_met (get_or M p 0)))) (lt-leb 4096 p l)))

  pub unmet_nowhere : p ≡ 8192 → unmet_at M p ≡ 8192
  unfolding unmet_at
  unmet_nowhere e =
      sym (cond-kept p 8192 (and_fails (leb 4096 p) (ap (λ (b : Bool). b && not (is_met (get_or M p 0))) (le-ltb p 8192 (omega arith)))))

  pub unmet-met : is_met (get_or M p 0) ≡ true → unmet_at M p ≡ 8192
  unfolding unmet_at
  unmet-met e = sym (cond-kept p 8192 (and_fails (leb 4096 p) (and_fails (ltb p 8192) (ap not e))))

  pub unmet-there : 4096 ≤ p → p < 8192 → is_met (get_or M p 0) ≡ false → p ≡ unmet_at M p
  unfolding unmet_at
  unmet-there low high f = cond-made p 8192 (and_holds (le-leb 4096 p low) (and_holds (lt-ltb p 8192 high) (ap not f)))

  -- what the answer tells
  pub unmet-found : {q : ℕ} → q ≡ unmet_at M p → q < 8192 → (is_unmet_at M p ≡ true) × (q ≡ p)
  unfolding unmet_at
  unmet-found {q} e l = go (is_unmet_at M p) refl
    where
      go : (b : Bool) → is_unmet_at M p ≡ b → (is_unmet_at M p ≡ true) × (q ≡ p)
      go true u = (u, e ∙ sym (cond-made p 8192 u))
      go false u = let none = e ∙ sym (cond-kept p 8192 u) in absurd (omega arith)

  pub unmet_missed : {q : ℕ} → q ≡ unmet_at M p → 8192 ≤ q → is_unmet_at M p ≡ false
  unfolding unmet_at
  unmet_missed {q} e l = go (is_unmet_at M p) refl
    where
      go : (b : Bool) → is_unmet_at M p ≡ b → is_unmet_at M p ≡ false
      go false u = u
      go true u =
          let at = e ∙ sym (cond-made p 8192 u) in
          and_fails (leb 4096 p) (ap (λ (b : Bool). b && not (is_met (get_or M p 0))) (le-ltb p 8192 (omega arith)))

-- ---- 64 bytes

-- the ID of a hash
pub id_of_hash : (h : List ℕ) {x : ℕ} → length h ≡ 64 → x ≡ joined 8 (part 0 8 h) → x ≡ first_eight (joined 8 h)
id_of_hash h size e = e ∙ sym (first_eight_part 0 h (omega arith)) ∙ ap (λ (l : List ℕ). first_eight (joined 8 l)) (take_all 64 h (omega arith))

pub bytes_back : (at : ℕ) (l : List ℕ) → at + 64 ≤ length l → Below 8 l → groups 8 64 (joined 8 (part at 64 l)) ≡ part at 64 l
bytes_back at l room below =
    ap (λ (n : ℕ). groups 8 n (joined 8 (part at 64 l))) (sym (part_length at l 64 room)) ∙ groups-joined 8 (part at 64 l) (part-below at 64 l below)

-- bytes are the same where the numbers in them are
pub same_bytes : (a b : List ℕ) → length a ≡ 64 → length b ≡ 64 → Below 8 a → Below 8 b → pointwise eqb a b ≡ eqb (joined 8 a) (joined 8 b)
same_bytes a b size-a size-b below-a below-b =
    same_test (pointwise eqb a b) (eqb (joined 8 a) (joined 8 b))
    (λ e. eq-eqb (joined 8 a) (joined 8 b) (ap (joined 8) (decides.0 e)))
    (λ e. decides.1 (sym (back a size-a below-a) ∙ ap (groups 8 64) (eqb-true (joined 8 a) (joined 8 b) e) ∙ back b size-b below-b))
  where
    back : (l : List ℕ) → length l ≡ 64 → Below 8 l → groups 8 64 (joined 8 l) ≡ l
    back l size below = ap (λ (n : ℕ). groups 8 n (joined 8 l)) (sym size) ∙ groups-joined 8 l below

    decides : Decides (pointwise eqb a b) (a ≡ b)
    decides = bytes_eq-Decides a b

-- a hash's bytes, and whether they are those of another
module _ (x : ℕ) (short : x < 2 ^ 512) {bs : List ℕ} (there : bs ≡ groups 8 64 x) where
  pub hash-size : length bs ≡ 64
  hash-size = ap length there ∙ groups-length 8 64 x

  pub hash-same : (h : List ℕ) → length h ≡ 64 → Below 8 h → pointwise eqb bs h ≡ eqb x (joined 8 h)
  hash-same h size below =
      same_bytes bs h hash-size size (rw there (groups-below 8 64 x)) below
      ∙ ap (λ (n : ℕ). eqb n (joined 8 h)) (ap (joined 8) there ∙ joined-groups 8 64 x ∙ mod-eq_of_lt short)

-- ---- the hash at a place

module _ (t K : List ℕ) (p : ℕ) where
  pub hash-first : p < 4096 → hash_at_place t K p ≡ get_or t p 0
  unfolding hash_at_place
  hash-first h = ap (λ (b : Bool). cond b (get_or t p 0) (get_or K (p - 4096) 0)) (lt-ltb p 4096 h)

  pub hash_second : 4096 ≤ p → hash_at_place t K p ≡ get_or K (p - 4096) 0
  unfolding hash_at_place
  hash_second h = ap (λ (b : Bool). cond b (get_or t p 0) (get_or K (p - 4096) 0)) (le-ltb p 4096 h)

pub place-short : (table known : List ℕ) (p : ℕ) → hash_at_place (hashes_of table) (hashes_of known) p < 2 ^ 512
unfolding hash_at_place
place-short table known p = go (ltb p 4096)
  where
    go : (b : Bool) → cond b (get_or (hashes_of table) p 0) (get_or (hashes_of known) (p - 4096) 0) < 2 ^ 512
    go true = hashes-below table p
    go false = hashes-below known (p - 4096)

-- ---- the place of a hash

module _ (table known : List ℕ) (h : ℕ) {id p : ℕ} (read : id ≡ first_eight h)
    (is : p ≡ place_of (ids_of first_eight table) (ids_of first_eight known) id) where
  pub place_here : p ≡ place_of (map first_eight (hashes_of table)) (map first_eight (hashes_of known)) (first_eight h)
  unfolding ids_of
  place_here = is ∙ ap (place_of (ids_of first_eight table) (ids_of first_eight known)) read

  by_tests : (t u : Bool) → ltb p 8192 ≡ t → eqb (hash_at_place (hashes_of table) (hashes_of known) p) h ≡ u
      → cond t (cond u p 8192) 8192 ≡ place_of_hash first_eight (hashes_of table) (hashes_of known) h
  unfolding place_of_hash
  by_tests t u e f =
      ap₂ (λ (t u : Bool). cond t (cond u p 8192) 8192) (sym e) (sym f)
      ∙ ap (λ (q : ℕ). cond (ltb q 8192) (cond (eqb (hash_at_place (hashes_of table) (hashes_of known) q) h) q 8192) 8192) place_here

  pub hash-placed : p < 8192 → eqb (hash_at_place (hashes_of table) (hashes_of known) p) h ≡ true
      → p ≡ place_of_hash first_eight (hashes_of table) (hashes_of known) h
  hash-placed l e = by_tests true true (lt-ltb p 8192 l) e

  pub hash_other : p < 8192 → eqb (hash_at_place (hashes_of table) (hashes_of known) p) h ≡ false
      → 8192 ≡ place_of_hash first_eight (hashes_of table) (hashes_of known) h
  hash_other l e = by_tests true false (lt-ltb p 8192 l) e

  pub hash-nowhere : 8192 ≤ p → 8192 ≡ place_of_hash first_eight (hashes_of table) (hashes_of known) h
  hash-nowhere l = by_tests false _ (le-ltb p 8192 l) refl

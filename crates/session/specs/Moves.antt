-- What private functions compute, in the code's own shape, on lists: cited by their contracts alone. Nothing here is to be believed:
-- laws (proofs/*Tie) tie what is made of them to `Session` and `Memory`.
--
-- t and K are the hashes of the table and those demanded, M the marks, place by place: a table's element i at i, a demanded hash j at 4,096 + j.
use Rattle.std.specs.Prelude.{Bool, true, false, not, ◌&&◌, ◌||◌, cond, ℕ, ◌+◌, ◌-◌, ◌*◌, ◌/◌, eqb, ltb, leb, length, get_or, set, take}
use mathlib.Core.List.{List, [], ◌∷◌, ◌++◌, map, foldr}
use Rattle.std.specs.Int.Bits.{bit_xor}
use Rattle.bucket.specs.Digits.{groups}
use Rattle.bucket.specs.Lists.{elem, over, part}
use Rattle.filter.specs.Lists.{select}
use Rattle.filter.specs.Table.{first_eight, ids_of, position, holds}
use Rattle.session.specs.declared.offering.Item.{Item}
use Rattle.session.specs.declared.offering.Item.TheVariants.{Known, New, Bad}
use Rattle.ledger.specs.Memory.{is_asked, is_offered, is_served, is_met, marked}

-- ---- places

-- where the element with this ID has its mark, by the IDs of the table and of the demanded; 8,192 for none
unfoldable pub place_of : List ℕ → List ℕ → ℕ → ℕ
place_of ts ks x = cond (holds ts x) (position ts x) (cond (holds ks x) (4096 + position ks x) 8192)

unfoldable pub is_held_at : List ℕ → ℕ → Bool
is_held_at M p = cond (ltb p 4096) true (cond (ltb p 8192) (is_met (get_or M p 0)) false)

unfoldable pub hash_at_place : List ℕ → List ℕ → ℕ → ℕ
hash_at_place t K p = cond (ltb p 4096) (get_or t p 0) (get_or K (p - 4096) 0)

-- by the whole hash
unfoldable pub place_of_hash : (ℕ → ℕ) → List ℕ → List ℕ → ℕ → ℕ
place_of_hash derive t K h =
    let p = place_of (map derive t) (map derive K) (derive h) in
    cond (ltb p 8192) (cond (eqb (hash_at_place t K p) h) p 8192) 8192

-- a place of a demand that is unmet; 8,192 for any other
abbrev pub is_unmet_at : List ℕ → ℕ → Bool
is_unmet_at M p = leb 4096 p && (ltb p 8192 && not (is_met (get_or M p 0)))

unfoldable pub unmet_at : List ℕ → ℕ → ℕ
unmet_at M p = cond (is_unmet_at M p) p 8192

-- ---- the items of a message, one after the other, up to the first that is bad

unfoldable pub go_all : {A : Type 0} → (A → Bool) → (ℕ → A → A) → List ℕ → A → A
go_all fine f [] w = w
go_all fine f (x ∷ xs) w = cond (fine (f x w)) (go_all fine f xs (f x w)) (f x w)

-- marks as they change, and hashes gathered in order
pub record Walk : Type 0 where
  pub fine : Bool
  pub marks : List ℕ
  pub hashes : List ℕ

abbrev pub walk : Bool → List ℕ → List ℕ → Walk
walk b M hs = record { fine = b; marks = M; hashes = hs }

abbrev pub is_fine : Walk → Bool
is_fine w = w.fine

module _ (derive : ℕ → ℕ) (t K : List ℕ) where
  -- INQUIRY: an ID held is marked asked and offered, and its hash gathered; at most 4,096 can be
  unfoldable pub ask_at : ℕ → Walk → Walk
  ask_at p w =
      cond (is_held_at w.marks p)
      (cond (is_asked (get_or w.marks p 0) || leb 4096 (length w.hashes))
      (walk false w.marks w.hashes)
      (walk true (set w.marks p (get_or w.marks p 0 / 4 * 4 + 3)) (w.hashes ++ hash_at_place t K p ∷ [])))
      w

  unfoldable pub ask_one : ℕ → Walk → Walk
  ask_one x w = ask_at (place_of (map derive t) (map derive K) x) w

  abbrev pub ask_all : List ℕ → List ℕ → Walk
  ask_all xs M = go_all is_fine ask_one xs (walk true M [])

  -- DEMAND: a hash offered and not yet served is marked served
  unfoldable pub serve_at : ℕ → Walk → Walk
  serve_at p w =
      cond (ltb p 8192 && (is_offered (get_or w.marks p 0) && not (is_served (get_or w.marks p 0))))
      (walk true (set w.marks p (get_or w.marks p 0 + 4)) w.hashes)
      (walk false w.marks w.hashes)

  unfoldable pub serve_one : ℕ → Walk → Walk
  serve_one h w = serve_at (place_of_hash derive t K h) w

  abbrev pub serve_all : List ℕ → List ℕ → Walk
  serve_all hs M = go_all is_fine serve_one hs (walk true M [])

-- OFFER: the new hashes in order; a hash that shares its ID with another, or in state 2 was not inquired, is bad
pub record News : Type 0 where
  pub fine : Bool
  pub hashes : List ℕ

abbrev pub news_of : Bool → List ℕ → News
news_of b hs = record { fine = b; hashes = hs }

abbrev pub is_good : News → Bool
is_good w = w.fine

module _ (derive : ℕ → ℕ) (t K I : List ℕ) (active : Bool) where
  unfoldable pub new_one : ℕ → News → News
  new_one h w =
      let p = place_of (map derive t) (map derive K) (derive h) in
      cond (ltb p 8192)
      (cond (eqb (hash_at_place t K p) h) w (news_of false w.hashes))
      (cond (elem (derive h) (map derive w.hashes))
      (cond (elem h w.hashes) w (news_of false w.hashes))
      (cond (active && not (holds I (derive h))) (news_of false w.hashes) (news_of true (w.hashes ++ h ∷ []))))

  abbrev pub new_all : List ℕ → News
  new_all hs = go_all is_good new_one hs (news_of true [])

-- how many of them were not inquired
unfoldable pub extra : (ℕ → ℕ) → List ℕ → List ℕ → ℕ
extra derive I hs = length (select (λ x. not (holds I x)) (map derive hs))

-- ---- memory moved

-- the k items from a position on, moved up by some places
abbrev pub moved_up : {A : Type 0} → ℕ → ℕ → ℕ → List A → List A
moved_up from k by l = over (from + by) (part from k l) l

-- a number put into the first n of a list at its place
unfoldable pub inserted_id : ℕ → ℕ → List ℕ → List ℕ
inserted_id n x l = let p = position (take n l) x in over p (x ∷ part p (n - p) l) l

unfoldable pub inserted_all : ℕ → List ℕ → List ℕ → List ℕ
inserted_all n [] l = l
inserted_all n (x ∷ xs) l = inserted_all (n + 1) xs (inserted_id n x l)

-- a hash put into the first n of a list of hashes in memory at its place; the place is by the ID
unfoldable pub hash_into : ℕ → ℕ → List ℕ → List ℕ → List ℕ
hash_into n p h l = over (64 * p) (h ++ part (64 * p) (64 * (n - p)) l) l

unfoldable pub mark_into : ℕ → ℕ → List ℕ → List ℕ
mark_into n p M = over (4096 + p) (0 ∷ part (4096 + p) (n - p) M) M

-- ---- checksums

-- the XOR of all hashes of the table and of the met ones of the demanded
unfoldable pub check_of : List ℕ → List ℕ → List ℕ → ℕ
check_of t K flags = bit_xor (foldr bit_xor 0 t) (foldr bit_xor 0 (marked is_met K flags))

-- ---- offers

-- a hash offered, F being the new ones so far, ascending: known already, new, or bad
unfoldable pub item_in : List ℕ → List ℕ → List ℕ → List ℕ → Bool → ℕ → Item
item_in t K F I active h =
    let x = first_eight h in
    let p = place_of (map first_eight t) (map first_eight K) x in
    cond (ltb p 8192) (cond (eqb (hash_at_place t K p) h) Known Bad)
    (cond (holds (map first_eight F) x) (cond (eqb (get_or F (position (map first_eight F) x) 0) h) Known Bad)
    (cond (active && not (holds I x)) Bad New))

-- new hashes put among the demanded, one after the other
pub record Stored : Type 0 where
  pub records : List ℕ
  pub marks : List ℕ

abbrev pub stored : List ℕ → List ℕ → Stored
stored R M = record { records = R; marks = M }

unfoldable pub store_all : ℕ → List ℕ → Stored → Stored
store_all n [] s = s
store_all n (h ∷ hs) s =
    let p = position (ids_of first_eight (take (64 * n) s.records)) (first_eight h) in
    store_all (n + 1) hs (stored (hash_into n p (groups 8 64 h) s.records) (mark_into n p s.marks))

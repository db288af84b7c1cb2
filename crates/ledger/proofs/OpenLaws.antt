-- What a complete reading opens: the table's marks, by setting the mark of each of ours in turn; and where hashes stand, by their IDs. Assumes nothing.
use mathlib.Core.Path.{◌≡◌, refl, sym, ap, ap₂, ◌∙◌}
use mathlib.Core.Bool.{Bool, false, ◌||◌}
use mathlib.Core.List.{List, [], ◌∷◌, map}
use Prim.Native.Nat.{ℕ}
use lib.Dec.{eqb}
use lib.ListN.{set}
use Rattle.bucket.specs.Lists.{elem}
use Rattle.bucket.proofs.ListLaws.{elem-head, elem_tail}
use Rattle.filter.specs.Table.{position}
use Rattle.filter.specs.Sets.{insert, ◌∪◌}
use Rattle.ledger.specs.Session.{Ledger, ids_of, hash_of, held, hashes_for, opened}
use Rattle.ledger.specs.Memory.{mark_of, marks_of}
use Rattle.filter.proofs.SetLaws.{◌∈◌, ◌⊆◌, elem-insert, insert-here, elem-∪, Asc, or_swap}
use Rattle.ledger.proofs.BookLaws.{Books}
use Rattle.ledger.proofs.HeldLaws.{hash_of_lem, hashes_in_lem, table-held}
use Rattle.ledger.proofs.BitLaws.{mark_from, mark-same}
use Rattle.ledger.proofs.PointLaws.{map-agree, point_set, position-map}
use Rattle.ledger.proofs.ActLaws.{elem_other, hash-known}

-- marks with 2 at each of the positions
unfoldable pub offered_at : List ℕ → List ℕ → List ℕ
offered_at [] ms = ms
offered_at (p ∷ ps) ms = offered_at ps (set ms p 2)

-- sets that differ by their order of making
later : (y h : ℕ) (hs off : List ℕ) → elem y (insert h (hs ∪ off)) ≡ elem y (hs ∪ insert h off)
later y h hs off =
    elem-insert y h (hs ∪ off)
    ∙ ap (λ (r : Bool). eqb y h || r) (elem-∪ y hs off)
    ∙ or_swap (elem y hs) (eqb y h) (elem y off)
    ∙ ap (λ (r : Bool). elem y hs || r) (sym (elem-insert y h off))
    ∙ sym (elem-∪ y hs (insert h off))

-- the marks of a table of which nothing is asked or demanded
abbrev only_offered : List ℕ → ℕ → ℕ
only_offered off y = mark_from false (elem y off) false

offered-marks : (t : List ℕ) → Asc t → (hs off : List ℕ) → hs ⊆ t
    → map (only_offered (hs ∪ off)) t ≡ offered_at (map (position t) hs) (map (only_offered off) t)
unfolding ◌∪◌ offered_at
offered-marks t asc [] off h = refl
offered-marks t asc (a ∷ hs) off h =
    map-agree (only_offered (insert a (hs ∪ off))) (only_offered (hs ∪ insert a off)) t (λ y e. ap (λ (o : Bool). mark_from false o false) (later y a hs off))
    ∙ offered-marks t asc hs (insert a off) (λ x e. h x (elem_tail x a hs e))
    ∙ ap (offered_at (map (position t) hs)) one
  where
    one : map (only_offered (insert a off)) t ≡ set (map (only_offered off) t) (position t a) 2
    one =
        point_set t a asc (h a (elem-head a hs)) (only_offered off) (only_offered (insert a off))
        (λ y e ne. ap (λ (o : Bool). mark_from false o false) (elem_other y a off ne))
        ∙ ap (λ (o : Bool). set (map (only_offered off) t) (position t a) (mark_from false o false)) (insert-here a off)

-- ---- where a hash stands, by its ID

pub position-ids : (derive : ℕ → ℕ) (l : List ℕ) (x : ℕ) → Asc l → Asc (ids_of derive l) → x ∈ ids_of derive l
    → position (ids_of derive l) x ≡ position l (hash_of derive l x)
unfolding ids_of
position-ids derive l x asc ids e =
    let (m, i) = hash_of_lem derive l x e in
    ap (position (map derive l)) (sym i) ∙ position-map derive l (hash_of derive l x) asc ids m

module _ (derive : ℕ → ℕ) (t : List ℕ) (L : Ledger) (b : Books derive t L) where
  -- an ID of the table
  pub hash-table : (x : ℕ) → x ∈ ids_of derive t → hash_of derive (held derive t L) x ≡ hash_of derive t x
  hash-table x e =
      let (m, i) = hash_of_lem derive t x e in
      rw i at (hash-known derive t L b (hash_of derive t x) (table-held derive t L (hash_of derive t x) m))

  pub hashes-table : (xs : List ℕ) → xs ⊆ ids_of derive t → hashes_for derive t L xs ≡ map (hash_of derive t) xs
  unfolding hashes_for
  hashes-table xs has = map-agree (hash_of derive (held derive t L)) (hash_of derive t) xs (λ x e. hash-table x (has x e))

  -- ---- what a complete reading opens

  module _ (ours theirs : List ℕ) (has : ours ⊆ ids_of derive t) (offered : L.offered ≡ []) where
    ours_in_lem : hashes_for derive t L ours ⊆ t
    ours_in_lem = rw (hashes-table ours has) (hashes_in_lem derive t ours has)

    pub marks-opened : Asc t → L.asked ≡ [] → L.served ≡ []
        → marks_of derive t (opened derive t ours theirs L) ≡ offered_at (map (position t) (hashes_for derive t L ours)) (marks_of derive t L)
    unfolding mark_of elem
    marks-opened asc asked served =
        map-agree (mark_of derive t (opened derive t ours theirs L)) (only_offered (hashes_for derive t L ours ∪ [])) t
        (λ y e. ap₂ (λ (a s : Bool). mark_from a (elem y (hashes_for derive t L ours ∪ [])) s) (ap (elem (derive y)) asked) (ap (elem y) served))
        ∙ offered-marks t asc (hashes_for derive t L ours) [] ours_in_lem
        ∙ ap (offered_at (map (position t) (hashes_for derive t L ours)))
        (sym (map-agree (mark_of derive t L) (only_offered []) t (λ y e. mark-same (ap (elem (derive y)) asked) (ap (elem y) offered) (ap (elem y) served))))

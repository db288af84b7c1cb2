-- What acts do to a ledger's memory: an ELEMENT gained, a hash demanded by the far end, an ID asked, a hash demanded, and what a complete reading opens.
-- One at a time, and many as one after the other. Assumes nothing.
use mathlib.Core.Path.{◌≡◌, refl, sym, ap, ap₂, ◌∙◌}
use mathlib.Core.Logic.{◌≢◌, ◌⊎◌, inl, inr}
use mathlib.Core.Bool.{Bool, true, false, ◌||◌}
use mathlib.Core.List.{List, [], ◌∷◌, ◌++◌, map}
use Prim.Native.Nat.{ℕ, ◌+◌, ◌*◌, ◌/◌}
use native.Mathlib.Omega.{arith}
use lib.ListN.{get_or, set}
use borrow.Author.Tests.{ne_eqb}
use Rattle.bucket.specs.Lists.{elem}
use Rattle.filter.specs.Table.{position}
use Rattle.filter.specs.Sets.{insert, ◌∪◌}
use Rattle.ledger.specs.Session.{Ledger, unmet, gaining, serving, hash_of, held, held_ids, hashes_for, asking}
use Rattle.ledger.specs.Memory.{bit, mark_of, flag_of, marks_of, flags_of}
use Rattle.filter.proofs.SetLaws.{◌∈◌, not_in, in_append-l, in_append-r, elem-insert, insert-here, ∪-append, Asc}
use Rattle.ledger.proofs.BookLaws.{Books}
use Rattle.ledger.proofs.HeldLaws.{in_ids, hash_of_lem, unmet_in, gained-held}
use Rattle.ledger.proofs.KeptLaws.{unmet_lacking}
use Rattle.ledger.proofs.BitLaws.{mark_from, mark-same, serve_mark, ask_mark, ask_flag}
use Rattle.ledger.proofs.MemoryLaws.{held-known}
use Rattle.ledger.proofs.PointLaws.{map-agree, map-there, point_set}

-- ---- one more in a set

pub elem_other : (x a : ℕ) (l : List ℕ) → x ≢ a → elem x l ≡ elem x (insert a l)
elem_other x a l ne = sym (elem-insert x a l ∙ ap (λ (t : Bool). t || elem x l) (ne_eqb x a ne))

module _ (derive : ℕ → ℕ) (t : List ℕ) (L : Ledger) (b : Books derive t L) where
  -- ---- hashes that are not held

  -- a hash that is not held, and whose ID is not asked, has no mark
  module _ (h : ℕ) (quiet : elem (derive h) L.asked ≡ false) (off : h ∈ held derive t L → ⊥) where
    not_offered : h ∈ L.offered → ⊥
    not_offered e = off (b.offered_held h e)

    pub no_mark : mark_of derive t L h ≡ 0
    unfolding mark_of
    no_mark = mark-same quiet (not_in h L.offered not_offered) (not_in h L.served (λ e. not_offered (b.served_offered h e)))

    pub no_flag : flag_of derive t L h ≡ 0
    unfolding flag_of
    no_flag = ap₂ (λ (m : ℕ) (g : Bool). m + 8 * bit g) no_mark (not_in h L.gained (λ e. off (gained-held derive t L h e)))

  -- no hash that is held has the ID
  not_asked_lem : (h : ℕ) → (derive h ∈ held_ids derive t L → ⊥) → elem (derive h) L.asked ≡ false
  not_asked_lem h off = not_in (derive h) L.asked (λ e. off (b.asked_held (derive h) e))

  not_held : (h : ℕ) → (derive h ∈ held_ids derive t L → ⊥) → h ∈ held derive t L → ⊥
  not_held h off e = off (in_ids derive h (held derive t L) e)

  -- in the table or demanded, as a place in both
  known : (x : ℕ) → (x ∈ t) ⊎ (x ∈ L.demanded) → x ∈ t ++ L.demanded
  known x (inl e) = in_append-l x t L.demanded e
  known x (inr e) = in_append-r x t L.demanded e

  -- ---- an ELEMENT gained

  module _ (h : ℕ) where
    pub marks-gaining : marks_of derive t (gaining h L) ≡ marks_of derive t L
    unfolding mark_of
    marks-gaining = refl

    gaining_other : (x : ℕ) → x ∈ L.demanded → x ≢ h → flag_of derive t L x ≡ flag_of derive t (gaining h L) x
    unfolding flag_of mark_of
    gaining_other x e ne = ap (λ (g : Bool). mark_of derive t L x + 8 * bit g) (elem_other x h L.gained ne)

    gaining-here : h ∈ unmet L → flag_of derive t (gaining h L) h ≡ 8
    unfolding flag_of mark_of
    gaining-here u = ap₂ (λ (m : ℕ) (g : Bool). m + 8 * bit g) (no_mark h (not_asked_lem h (unmet_lacking derive t L b h u)) (not_held h (unmet_lacking derive t L b h u))) (insert-here h L.gained)

    pub flags-gaining : h ∈ unmet L → flags_of derive t (gaining h L) ≡ set (flags_of derive t L) (position L.demanded h) 8
    flags-gaining u =
        point_set L.demanded h b.demanded_asc (unmet_in L h u).0 (flag_of derive t L) (flag_of derive t (gaining h L)) gaining_other
        ∙ ap (set (flags_of derive t L) (position L.demanded h)) (gaining-here u)

  -- ---- the marks of one hash changed: in the table, or among the demanded

  module _ (K : Ledger) (h : ℕ) (demanded : K.demanded ≡ L.demanded) (gained : K.gained ≡ L.gained) (other : (x : ℕ) → x ∈ t ++ L.demanded → x ≢ h → mark_of derive t L x ≡ mark_of derive t K x) where
    other_flag : (x : ℕ) → x ∈ L.demanded → x ≢ h → flag_of derive t L x ≡ flag_of derive t K x
    unfolding flag_of
    other_flag x e ne = ap₂ (λ (m : ℕ) (l : List ℕ). m + 8 * bit (elem x l)) (other x (known x (inr e)) ne) (sym gained)

    table-changed : Asc t → h ∈ t → marks_of derive t K ≡ set (marks_of derive t L) (position t h) (mark_of derive t K h)
    table-changed asc e = point_set t h asc e (mark_of derive t L) (mark_of derive t K) (λ x m. other x (known x (inl m)))

    records-kept : h ∈ t → flags_of derive t K ≡ flags_of derive t L
    records-kept e =
        ap (map (flag_of derive t K)) demanded
        ∙ sym (map-agree (flag_of derive t L) (flag_of derive t K) L.demanded (λ x m. other_flag x m (λ q. b.demanded_new x m (rw q e))))

    record_changed : h ∈ L.demanded → flags_of derive t K ≡ set (flags_of derive t L) (position L.demanded h) (flag_of derive t K h)
    record_changed e =
        ap (map (flag_of derive t K)) demanded
        ∙ point_set L.demanded h b.demanded_asc e (flag_of derive t L) (flag_of derive t K) other_flag

    table_kept : h ∈ L.demanded → marks_of derive t K ≡ marks_of derive t L
    table_kept e = sym (map-agree (mark_of derive t L) (mark_of derive t K) t (λ x m. other x (known x (inl m)) (λ q. b.demanded_new h e (rw q at m))))

  -- ---- a hash demanded by the far end

  module _ (h : ℕ) where
    serving_other : (x : ℕ) → x ∈ t ++ L.demanded → x ≢ h → mark_of derive t L x ≡ mark_of derive t (serving (h ∷ []) L) x
    unfolding mark_of ◌∪◌
    serving_other x e ne = ap (mark_from (elem (derive x) L.asked) (elem x L.offered)) (elem_other x h L.served ne)

    serving-here : elem h L.served ≡ false → mark_of derive t (serving (h ∷ []) L) h ≡ mark_of derive t L h + 4
    unfolding mark_of ◌∪◌
    serving-here new =
        ap (mark_from (elem (derive h) L.asked) (elem h L.offered)) (insert-here h L.served)
        ∙ serve_mark (elem (derive h) L.asked) (elem h L.offered)
        ∙ ap (λ (s : Bool). mark_from (elem (derive h) L.asked) (elem h L.offered) s + 4) (sym new)

    serving-here_flag : elem h L.served ≡ false → flag_of derive t (serving (h ∷ []) L) h ≡ flag_of derive t L h + 4
    unfolding flag_of
    serving-here_flag new = omega (arith, serving-here new)

    pub marks-serving : Asc t → h ∈ t → elem h L.served ≡ false
        → marks_of derive t (serving (h ∷ []) L) ≡ set (marks_of derive t L) (position t h) (get_or (marks_of derive t L) (position t h) 0 + 4)
    marks-serving asc e new =
        table-changed (serving (h ∷ []) L) h refl refl serving_other asc e
        ∙ ap (set (marks_of derive t L) (position t h)) (serving-here new ∙ ap (λ (m : ℕ). m + 4) (sym (map-there t h asc e (mark_of derive t L))))

    pub flags-serving-table : h ∈ t → flags_of derive t (serving (h ∷ []) L) ≡ flags_of derive t L
    flags-serving-table = records-kept (serving (h ∷ []) L) h refl refl serving_other

    pub flags-serving : h ∈ L.demanded → elem h L.served ≡ false
        → flags_of derive t (serving (h ∷ []) L)
        ≡ set (flags_of derive t L) (position L.demanded h) (get_or (flags_of derive t L) (position L.demanded h) 0 + 4)
    flags-serving e new =
        record_changed (serving (h ∷ []) L) h refl refl serving_other e
        ∙ ap (set (flags_of derive t L) (position L.demanded h))
        (serving-here_flag new ∙ ap (λ (m : ℕ). m + 4) (sym (map-there L.demanded h b.demanded_asc e (flag_of derive t L))))

    pub marks-serving_record : h ∈ L.demanded → marks_of derive t (serving (h ∷ []) L) ≡ marks_of derive t L
    marks-serving_record = table_kept (serving (h ∷ []) L) h refl refl serving_other

    pub serving-cons : (hs : List ℕ) → serving (h ∷ hs) L ≡ serving hs (serving (h ∷ []) L)
    serving-cons hs = λ i. record {
      inquired = L.inquired;
      asked = L.asked;
      offered = L.offered;
      served = sym (∪-append (h ∷ []) hs L.served b.served_asc) i;
      demanded = L.demanded;
      gained = L.gained;
      done_went = L.done_went;
    }

  -- ---- an ID asked

  module _ (x h : ℕ) (asked : x ∈ held_ids derive t L) (is : h ≡ hash_of derive (held derive t L) x) where
    pub hash-id : derive h ≡ x
    hash-id = ap derive is ∙ (hash_of_lem derive (held derive t L) x asked).1

    pub hash-held : h ∈ held derive t L
    hash-held = rw is (hash_of_lem derive (held derive t L) x asked).0

    asking_other : (y : ℕ) → y ∈ t ++ L.demanded → y ≢ h → mark_of derive t L y ≡ mark_of derive t (asking derive t (x ∷ []) L) y
    unfolding mark_of hashes_for ◌∪◌
    asking_other y e ne =
        ap₂ (λ (a o : Bool). mark_from a o (elem y L.served))
        (elem_other (derive y) x L.asked (λ q. ne (b.no_shared y h e (known h (held-known derive t L b h hash-held)) (q ∙ sym hash-id))))
        (elem_other y h L.offered ne ∙ ap (λ (k : ℕ). elem y (insert k L.offered)) is)

    asked_now : elem (derive h) (insert x L.asked) ≡ true
    asked_now = rw hash-id (insert-here x L.asked)

    offered_now : elem h (insert (hash_of derive (held derive t L) x) L.offered) ≡ true
    offered_now = rw is (insert-here (hash_of derive (held derive t L) x) L.offered)

    asking-here : mark_of derive t (asking derive t (x ∷ []) L) h ≡ mark_of derive t L h / 4 * 4 + 3
    unfolding mark_of hashes_for ◌∪◌
    asking-here =
        ap₂ (λ (a o : Bool). mark_from a o (elem h L.served)) asked_now offered_now
        ∙ ask_mark (elem (derive h) L.asked) (elem h L.offered) (elem h L.served)

    asking-here_flag : flag_of derive t (asking derive t (x ∷ []) L) h ≡ flag_of derive t L h / 4 * 4 + 3
    unfolding flag_of mark_of hashes_for ◌∪◌
    asking-here_flag =
        ap₂ (λ (a o : Bool). mark_from a o (elem h L.served) + 8 * bit (elem h L.gained)) asked_now offered_now
        ∙ ask_flag (elem (derive h) L.asked) (elem h L.offered) (elem h L.served) (elem h L.gained)

    pub marks-asking : Asc t → h ∈ t
        → marks_of derive t (asking derive t (x ∷ []) L) ≡ set (marks_of derive t L) (position t h) (get_or (marks_of derive t L) (position t h) 0 / 4 * 4 + 3)
    marks-asking asc e =
        table-changed (asking derive t (x ∷ []) L) h refl refl asking_other asc e
        ∙ ap (set (marks_of derive t L) (position t h)) (asking-here ∙ ap (λ (m : ℕ). m / 4 * 4 + 3) (sym (map-there t h asc e (mark_of derive t L))))

    pub flags-asking-table : h ∈ t → flags_of derive t (asking derive t (x ∷ []) L) ≡ flags_of derive t L
    flags-asking-table = records-kept (asking derive t (x ∷ []) L) h refl refl asking_other

    pub flags-asking : h ∈ L.demanded
        → flags_of derive t (asking derive t (x ∷ []) L)
        ≡ set (flags_of derive t L) (position L.demanded h) (get_or (flags_of derive t L) (position L.demanded h) 0 / 4 * 4 + 3)
    flags-asking e =
        record_changed (asking derive t (x ∷ []) L) h refl refl asking_other e
        ∙ ap (set (flags_of derive t L) (position L.demanded h))
        (asking-here_flag ∙ ap (λ (m : ℕ). m / 4 * 4 + 3) (sym (map-there L.demanded h b.demanded_asc e (flag_of derive t L))))

    pub marks-asking_record : h ∈ L.demanded → marks_of derive t (asking derive t (x ∷ []) L) ≡ marks_of derive t L
    marks-asking_record = table_kept (asking derive t (x ∷ []) L) h refl refl asking_other

  pub asking-cons : (x : ℕ) (xs : List ℕ) → asking derive t (x ∷ xs) L ≡ asking derive t xs (asking derive t (x ∷ []) L)
  unfolding hashes_for held
  asking-cons x xs = λ i. record {
    inquired = L.inquired;
    asked = sym (∪-append (x ∷ []) xs L.asked b.asked_asc) i;
    offered = sym (∪-append (hash_of derive (held derive t L) x ∷ []) (hashes_for derive t L xs) L.offered b.offered_asc) i;
    served = L.served;
    demanded = L.demanded;
    gained = L.gained;
    done_went = L.done_went;
  }

  -- a hash that is held is the hash with its ID
  pub hash-known : (h : ℕ) → h ∈ held derive t L → hash_of derive (held derive t L) (derive h) ≡ h
  hash-known h e =
      let (m, i) = hash_of_lem derive (held derive t L) (derive h) (in_ids derive h (held derive t L) e) in
      b.no_shared (hash_of derive (held derive t L) (derive h)) h
      (known (hash_of derive (held derive t L) (derive h)) (held-known derive t L b (hash_of derive (held derive t L) (derive h)) m))
      (known h (held-known derive t L b h e)) i

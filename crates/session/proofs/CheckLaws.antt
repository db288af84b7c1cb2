-- The checksum of a ledger by its parts: the table's, and that of the hashes gained. Assumes nothing.
use mathlib.Core.Path.{◌≡◌, refl, sym, ap, ap₂, ◌∙◌}
use mathlib.Core.Logic.{◌⊎◌, inl, inr}
use mathlib.Core.Bool.{Bool, true, false, ◌||◌, cond}
use mathlib.Core.List.{List, [], ◌∷◌, foldr}
use Prim.Native.Nat.{ℕ}
use lib.Bits.{bit_xor, xor_comm}
use lib.Dec.{eqb, ltb}
use borrow.Author.Tests.{eqb-true}
use Rattle.bucket.specs.Lists.{elem, Distinct}
use Rattle.bucket.proofs.ListLaws.{elem-head, elem_tail, elem_not_head, elem_not_tail}
use Rattle.bucket.proofs.XorLaws.{xor_assoc, xor_swap}
use Rattle.filter.specs.Sets.{insert, ◌∪◌}
use Rattle.ledger.specs.Session.{Ledger, gaining, unmet, held, checksum}
use Rattle.ledger.specs.Memory.{Memory, is_met, decode}
use Rattle.session.specs.Moves.{check_of}
use Rattle.filter.proofs.SetLaws.{◌∈◌, clash, not_in, elem-∪, in_∪-l, in_∪-r, insert_in, insert-asc, Asc, asc-distinct}
use Rattle.filter.proofs.ListLaws.{Apart}
use Rattle.ledger.proofs.BookLaws.{Books}
use Rattle.ledger.proofs.HeldLaws.{unmet_in}
use Rattle.ledger.proofs.MemoryLaws.{marked_in, marked-asc}

-- ---- sums of sets

-- one number more
xor_insert : (a : ℕ) (l : List ℕ) → elem a l ≡ false → foldr bit_xor 0 (insert a l) ≡ bit_xor a (foldr bit_xor 0 l)
unfolding insert
xor_insert a [] h = refl
xor_insert a (b ∷ l) h = go (ltb a b) (eqb a b) refl (xor_insert a l (elem_not_tail a b l h))
  where
    go : (s t : Bool) → eqb a b ≡ t → foldr bit_xor 0 (insert a l) ≡ bit_xor a (foldr bit_xor 0 l)
        → foldr bit_xor 0 (cond s (a ∷ b ∷ l) (cond t (b ∷ l) (b ∷ insert a l))) ≡ bit_xor a (bit_xor b (foldr bit_xor 0 l))
    go true t e ih = refl
    go false true e ih = absurd (elem_not_head a b l h (eqb-true a b e))
    go false false e ih = ap (bit_xor b) ih ∙ xor_swap b a (foldr bit_xor 0 l)

-- two sets that share nothing
pub xor_∪ : (l m : List ℕ) → Distinct l → Apart l m → foldr bit_xor 0 (l ∪ m) ≡ bit_xor (foldr bit_xor 0 l) (foldr bit_xor 0 m)
unfolding ◌∪◌
xor_∪ [] m d h = refl
xor_∪ (a ∷ l) m d h =
    xor_insert a (l ∪ m) (elem-∪ a l m ∙ ap₂ ◌||◌ d.0 (not_in a m (h a (elem-head a l))))
    ∙ ap (bit_xor a) (xor_∪ l m d.1 (λ x e. h x (elem_tail x a l e)))
    ∙ sym (xor_assoc a (foldr bit_xor 0 l) (foldr bit_xor 0 m))

-- ---- hashes that are marked

-- ---- the checksum

module _ (derive : ℕ → ℕ) (t : List ℕ) where
  pub check-held : (L : Ledger) → Asc L.gained → Apart L.gained t
      → checksum derive t L ≡ bit_xor (foldr bit_xor 0 t) (foldr bit_xor 0 L.gained)
  unfolding checksum held
  check-held L asc apart =
      xor_∪ L.gained t (asc-distinct L.gained asc) apart ∙ xor_comm (foldr bit_xor 0 L.gained) (foldr bit_xor 0 t)

  -- in memory
  pub check-decoded : (M : Memory) (went : Bool) → Asc M.records → Apart M.records t
      → checksum derive t (decode derive t M went) ≡ check_of t M.records M.flags
  unfolding decode check_of
  check-decoded M went asc apart =
      check-held (decode derive t M went) (marked-asc is_met M.records M.flags asc) (λ x e. apart x (marked_in is_met M.records M.flags x e))

  -- one more gained
  pub check-gained : (h : ℕ) (L : Ledger) → Asc L.gained → Apart L.gained t → elem h (held derive t L) ≡ false
      → checksum derive t (gaining h L) ≡ bit_xor (checksum derive t L) h
  unfolding held
  check-gained h L asc apart new =
      check-held (gaining h L) (insert-asc h L.gained asc) more
      ∙ ap (bit_xor (foldr bit_xor 0 t)) (xor_insert h L.gained (not_in h L.gained (λ e. clash (in_∪-l h L.gained t e) new)) ∙ xor_comm h (foldr bit_xor 0 L.gained))
      ∙ sym (xor_assoc (foldr bit_xor 0 t) (foldr bit_xor 0 L.gained) h)
      ∙ ap (λ (x : ℕ). bit_xor x h) (sym (check-held L asc apart))
    where
      more : Apart (insert h L.gained) t
      more x e k = go (insert_in x h L.gained e)
        where
          go : (x ≡ h) ⊎ (x ∈ L.gained) → ⊥
          go (inl q) = clash (in_∪-r h L.gained t (rw q at k)) new
          go (inr q) = apart x q k

  -- of a ledger in form
  module _ (L : Ledger) (b : Books derive t L) where
    gained-apart : Apart L.gained t
    gained-apart x e = b.demanded_new x (b.gained_demanded x e)

    pub check-element : (h : ℕ) → h ∈ unmet L → checksum derive t (gaining h L) ≡ bit_xor (checksum derive t L) h
    unfolding held
    check-element h e =
        let (k, n) = unmet_in L h e in
        check-gained h L b.gained_asc gained-apart (elem-∪ h L.gained t ∙ ap₂ ◌||◌ n (not_in h t (b.demanded_new h k)))

-- The hashes gathered from an OFFER: those that were not inquired counted, and all put among the demanded ones. Assumes nothing.
use mathlib.Core.Path.{◌≡◌, refl, sym, ap, ap₂, ◌∙◌}
use mathlib.Core.Bool.{Bool, true, false, not}
use mathlib.Core.List.{List, [], ◌∷◌, map}
use Prim.Native.Nat.{ℕ, ◌+◌, ◌*◌, ◌≤◌}
use native.Mathlib.Nat.{add-zero}
use native.Mathlib.Omega.{arith}
use lib.ListN.{length, take}
use Rattle.bucket.specs.Digits.{groups}
use Rattle.filter.specs.Lists.{select}
use Rattle.filter.specs.Table.{first_eight, ids_of, position, holds}
use Rattle.filter.proofs.SelectLaws.{select_yes, select_no}
use Rattle.session.specs.Moves.{extra, hash_into, mark_into, stored, store_all}

-- ---- those that were not inquired counted

abbrev pub uninquired : List ℕ → ℕ → Bool
uninquired I x = not (holds I x)

-- n are counted, and the hashes ys left
pub record Counting (I hs : List ℕ) (n : ℕ) (left : List ℕ) : Type 0 where
  pub most : n + length left ≤ length hs
  pub rest : n + extra first_eight I left ≡ extra first_eight I hs

module _ {I hs left : List ℕ} {n : ℕ} (s : Counting I hs n left) where
  pub counting-end : left ≡ [] → (n ≡ extra first_eight I hs) × (n ≤ length hs)
  unfolding extra select
  counting-end none = (sym (add-zero n) ∙ ap (λ (l : List ℕ). n + extra first_eight I l) (sym none) ∙ s.rest, omega (arith, s.most))

  module _ {h : ℕ} {rest : List ℕ} (item : left ≡ h ∷ rest) where
    pub counting_yes : holds I (first_eight h) ≡ false → Counting I hs (n + 1) rest
    unfolding extra
    counting_yes e = record {
      most = omega (arith, s.most, ap length item);
      rest =
          omega (arith, ap length (select_yes (uninquired I) (first_eight h) (map first_eight rest) (ap not e)), ap (extra first_eight I) item, s.rest);
    }

    pub counting_no : holds I (first_eight h) ≡ true → Counting I hs n rest
    unfolding extra
    counting_no e = record {
      most = omega (arith, s.most, ap length item);
      rest =
          omega (arith, ap length (select_no (uninquired I) (first_eight h) (map first_eight rest) (ap not e)), ap (extra first_eight I) item, s.rest);
    }

-- ---- hashes put among the demanded ones, one after the other

pub record Putting (n₀ : ℕ) (hs records₀ marks₀ records marks : List ℕ) (n : ℕ) (left : List ℕ) : Type 0 where
  pub same-records : length records ≡ length records₀
  pub same-marks : length marks ≡ length marks₀
  pub rest : store_all n left (stored records marks) ≡ store_all n₀ hs (stored records₀ marks₀)

pub putting_start : (n : ℕ) (hs records marks : List ℕ) → Putting n hs records marks records marks n hs
putting_start n hs records marks = record { same-records = refl; same-marks = refl; rest = refl }

module _ {n₀ n : ℕ} {hs records₀ marks₀ records marks left : List ℕ} (s : Putting n₀ hs records₀ marks₀ records marks n left) where
  pub putting_end : left ≡ [] → stored records marks ≡ store_all n₀ hs (stored records₀ marks₀)
  unfolding store_all
  putting_end none = ap (λ (l : List ℕ). store_all n l (stored records marks)) (sym none) ∙ s.rest

  -- the hash h, whose bytes are bs, was put in at place p
  module _ {h p : ℕ} {bs rest records' marks' : List ℕ} (item : left ≡ h ∷ rest) (bytes : groups 8 64 h ≡ bs)
      (is : p ≡ position (ids_of first_eight (take (64 * n) records)) (first_eight h)) (put : records' ≡ hash_into n p bs records) (mark : marks' ≡ mark_into n p marks) where
    placed : store_all (n + 1) rest (stored records' marks') ≡ store_all n (h ∷ rest) (stored records marks)
    unfolding store_all
    placed =
        ap₂ (λ (r m : List ℕ). store_all (n + 1) rest (stored r m)) (put ∙ ap (λ (b : List ℕ). hash_into n p b records) (sym bytes)) mark
        ∙ ap (λ (q : ℕ). store_all (n + 1) rest (stored (hash_into n q (groups 8 64 h) records) (mark_into n q marks))) is

    pub putting_next : length records' ≡ length records → length marks' ≡ length marks → Putting n₀ hs records₀ marks₀ records' marks' (n + 1) rest
    putting_next a b = record {
      same-records = a ∙ s.same-records;
      same-marks = b ∙ s.same-marks;
      rest = placed ∙ ap (λ (q : List ℕ). store_all n q (stored records marks)) (sym item) ∙ s.rest;
    }

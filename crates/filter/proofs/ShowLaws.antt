-- The set of buckets that look pure: the code's test is the definition's at any salt, the set grows by one bucket after another,
-- and a bucket replaced changes it there alone. Assumes nothing.
use mathlib.Core.Path.{◌≡◌, refl, sym, ap, ap₂, ◌∙◌}
use mathlib.Core.Bool.{Bool, true, false, ◌&&◌, cond}
use mathlib.Core.List.{List}
use Prim.Native.Nat.{ℕ, ◌+◌, ◌≤◌, ◌<◌, min}
use native.Mathlib.Omega.{arith}
use lib.Dec.{eqb, ltb}
use lib.IntN.{ℤ, pos}
use lib.ListN.{get_or, set}
use mir.Syntax.{w64}
use mir.Val.{SFits, to_z, of_z}
use mir.ValLaws.{to_z-of_z}
use borrow.Author.Tests.{lt-ltb, le-ltb, ltb-true, ltb-false, eqb-true, eqb-false}
use Rattle.bucket.specs.Bucket.{Bucket, bucket, is_one, looks_pure_by, looks_pure}
use Rattle.bucket.specs.Columns.{Columns, columns, view, place}
use Rattle.bucket.specs.Crc.{crc_of, crc_tables, crc_by, next_by}
use Rattle.bucket.specs.Lists.{elem}
use Rattle.bucket.specs.Places.{places}
use Rattle.bucket.proofs.ColumnLaws.{place_other}
use Rattle.bucket.proofs.PurityLaws.{pure_by_tables}
use Rattle.filter.specs.Filter.{Rule, rule}
use Rattle.filter.specs.Peeling.{is_pure}
use Rattle.filter.specs.Marks.{but, marks}
use Rattle.filter.specs.Steps.{shows}
use Rattle.filter.proofs.MarkLaws.{marks-same, marks-but, marks-any}

-- ---- the test

module _ (k size : ℕ) where
  pure_rule : (salt i : ℕ) (b : Bucket) → looks_pure k size i b ≡ is_pure (rule k size salt) i b
  unfolding looks_pure_by is_pure
  pure_rule salt i b = refl

  -- what the code's test answers
  pub pure_tested : (tab : List ℕ) (salt i : ℕ) (b : Bucket) (r : Bool) → tab ≡ crc_tables → k ≤ 4
      → r ≡ looks_pure_by (crc_by tab) (next_by tab) (min 4 k) size i b → r ≡ is_pure (rule k size salt) i b
  pure_tested tab salt i b r e h a =
      a ∙ ap₂ (λ (t : List ℕ) (n : ℕ). looks_pure_by (crc_by t) (next_by t) n size i b) e (omega arith)
      ∙ pure_by_tables k size i b ∙ pure_rule salt i b

  -- the same where it is called: the count goes through its bits
  pub pure_read : (tab : List ℕ) (salt i : ℕ) (is hs : List ℕ) (cs : List ℤ) (r : Bool) → tab ≡ crc_tables → k ≤ 4
      → SFits w64 (get_or cs i (pos 0))
      → r ≡ looks_pure_by (crc_by tab) (next_by tab) (min 4 k) size i (bucket (get_or is i 0) (get_or hs i 0) (to_z w64 (of_z w64 (get_or cs i (pos 0)))))
      → r ≡ is_pure (rule k size salt) i (view (columns is hs cs) i)
  unfolding view
  pure_read tab salt i is hs cs r e h fit a =
      pure_tested tab salt i (bucket (get_or is i 0) (get_or hs i 0) (to_z w64 (of_z w64 (get_or cs i (pos 0))))) r e h a
      ∙ ap (λ (z : ℤ). is_pure (rule k size salt) i (bucket (get_or is i 0) (get_or hs i 0) z)) (to_z-of_z w64 (get_or cs i (pos 0)) fit)

  -- a count that is not one settles it
  pub impure_read : (salt i : ℕ) (is hs : List ℕ) (cs : List ℤ) (r : Bool) → SFits w64 (get_or cs i (pos 0))
      → r ≡ is_one (to_z w64 (of_z w64 (get_or cs i (pos 0)))) → r ≡ false → false ≡ is_pure (rule k size salt) i (view (columns is hs cs) i)
  unfolding view is_pure
  impure_read salt i is hs cs r fit a e =
      ap (λ (t : Bool). t && (eqb (get_or hs i 0) (crc_of (get_or is i 0)) && elem i (places k size (crc_of (get_or is i 0)))))
      (sym (sym a ∙ e) ∙ ap is_one (to_z-of_z w64 (get_or cs i (pos 0)) fit))

  -- a bucket looks pure at one salt if it does at another
  pub shows-salt : (a b : ℕ) (f : ℕ → Bucket) → shows (rule k size a) f ≡ shows (rule k size b) f
  unfolding is_pure
  shows-salt a b f = refl

-- ---- one bucket after another

module _ (R : Rule) (f : ℕ → Bucket) where
  abbrev pub shows_below : ℕ → ℕ → Bool
  shows_below n i = ltb i n && is_pure R i (f i)

  but-next : (b : ℕ) (on : Bool) → on ≡ is_pure R b (f b) → (i : ℕ) → but (shows_below b) b on i ≡ shows_below (b + 1) i
  but-next b on e i = go (eqb i b) refl (ltb i b) refl
    where
      go : (t : Bool) → eqb i b ≡ t → (u : Bool) → ltb i b ≡ u → cond t on (shows_below b i) ≡ shows_below (b + 1) i
      go true h u q =
          let same = eqb-true i b h in
          e ∙ ap₂ (λ (v : Bool) (j : ℕ). v && is_pure R j (f j)) (sym (lt-ltb i (b + 1) (omega arith))) (sym same)
      go false h true q =
          let less = ltb-true i b q in
          ap (λ (v : Bool). v && is_pure R i (f i)) (q ∙ sym (lt-ltb i (b + 1) (omega arith)))
      go false h false q =
          ap (λ (v : Bool). v && is_pure R i (f i)) (q ∙ sym (le-ltb i (b + 1) (more (ltb-false i b q) (eqb-false i b h))))
        where
          more : b ≤ i → (i ≡ b → ⊥) → b + 1 ≤ i
          more l ne = omega arith

  pub shows_on : (b : ℕ) → b < 4096 → is_pure R b (f b) ≡ true → set (marks (shows_below b)) b true ≡ marks (shows_below (b + 1))
  shows_on b l e = marks-but (shows_below b) b true l ∙ marks-same (but (shows_below b) b true) (shows_below (b + 1)) (λ i h. but-next b true (sym e) i)

  pub shows_no : (b : ℕ) → is_pure R b (f b) ≡ false → marks (shows_below b) ≡ marks (shows_below (b + 1))
  shows_no b e = marks-same (shows_below b) (shows_below (b + 1)) (λ i l. sym (out i (eqb i b) refl) ∙ but-next b false (sym e) i)
    where
      out : (i : ℕ) (u : Bool) → eqb i b ≡ u → but (shows_below b) b false i ≡ shows_below b i
      out i u h = ap (λ (v : Bool). cond v false (shows_below b i)) h ∙ go u h
        where
          go : (u : Bool) → eqb i b ≡ u → cond u false (shows_below b i) ≡ shows_below b i
          go true q = let same = eqb-true i b q in ap (λ (v : Bool). v && is_pure R i (f i)) (sym (le-ltb i b (omega arith)))
          go false q = refl

-- ---- one bucket replaced

pub shows-place : (R : Rule) (p : ℕ) (c : Columns) (b : Bucket) (on : Bool) → p < R.size
    → on ≡ is_pure R p (view (place c p b) p)
    → set (marks (shows R (view c))) p on ≡ marks (shows R (view (place c p b)))
shows-place R p c b on l e = marks-any (shows R (view c)) p on ∙ marks-same (but (shows R (view c)) p on) (shows R (view (place c p b))) (λ i k. same i)
  where
    same : (i : ℕ) → but (shows R (view c)) p on i ≡ shows R (view (place c p b)) i
    same i = go (eqb i p) refl
      where
        go : (t : Bool) → eqb i p ≡ t → cond t on (shows R (view c) i) ≡ shows R (view (place c p b)) i
        go true h =
            let q = eqb-true i p h in
            e ∙ ap₂ (λ (u : Bool) (j : ℕ). u && is_pure R j (view (place c p b) j)) (sym (lt-ltb i R.size (omega (arith, q, l)))) (sym q)
        go false h = ap (λ (v : Bucket). ltb i R.size && is_pure R i v) (sym (place_other c p i b (eqb-false i p h)))

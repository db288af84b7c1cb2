-- A part of three columns, lent alone: what is seen in it, and the columns with it put back; and so one stratum of an estimator, to which an
-- element is added or which is read. Assumes nothing.
use mathlib.Core.Path.{◌≡◌, refl, sym, ap, ap₂, subst, ◌∙◌}
use mathlib.Core.Bool.{Bool, true, false, cond}
use mathlib.Core.List.{List, ◌++◌, map}
use Prim.Native.Nat.{ℕ, ◌+◌, ◌*◌, ◌/◌, ◌%◌, ◌-◌, ◌≤◌, ◌<◌}
use native.Mathlib.Omega.{arith}
use borrow.Author.Tests.{eqb-true, eqb-false, ltb-true, ltb-false}
use borrow.Rule.Slice.PartMut.{mid_of, post_of, put_mid, same_len_mid}
use lib.Dec.{eqb, ltb}
use lib.IntN.{ℤ, pos, nat_abs}
use lib.ListN.{length, get_or, take, drop, length-drop, get_or-append}
use lib.Seq.{length-take-le, get_or-take, get_or-drop, get_or-append-add}
use Rattle.bucket.specs.Bucket.{Bucket, ◌⊕◌, 𝟎}
use Rattle.bucket.specs.Columns.{Columns, columns, view}
use Rattle.bucket.specs.Lists.{elem}
use Rattle.bucket.proofs.BucketLaws.{bucket-same, ⊕-idr}
use Rattle.bucket.proofs.ColumnLaws.{SameLengths}
use Rattle.filter.specs.declared.answers.Verdict.{Verdict}
use Rattle.std.specs.Prelude.{Some, None}
use Rattle.filter.specs.Filter.{Item}
use Rattle.filter.specs.Peeling.{Outcome, is_complete, reading}
use Rattle.filter.specs.Calls.{filled}
use Rattle.filter.specs.Estimator.{stratum_rule, stratum, with_stratum, strata_verdict, left_by, left_at, reading_at}
use Rattle.filter.specs.Steps.{Wide, Small, counted, spread}
use Rattle.filter.proofs.FilledLaws.{wide-less, filled_is_lengths, view-filled_in, filled_of, filled_cong}
use Rattle.filter.proofs.PeelLaws.{reading_cong}
use Rattle.filter.proofs.StrataLaws.{in_stratum_lem, elem-moved, moved-from, with_stratum_in, with_stratum-out, Like, verdict_like, left_like}

-- ---- a part of a list

module _ {X : Type 0} (a k : ℕ) (xs : List X) (h : a + k ≤ length xs) where
  before-length : length (take a xs) ≡ a
  before-length = length-take-le a xs (omega arith)

  part_length : length (mid_of a k xs) ≡ k
  part_length = length-take-le k (drop a xs) (omega (arith, length-drop a xs))

  at_part : (d : X) (i : ℕ) → i < k → get_or (mid_of a k xs) i d ≡ get_or xs (a + i) d
  at_part d i l = get_or-take k (drop a xs) i d l ∙ get_or-drop a xs i d

  -- with ys in its place
  module _ (ys : List X) (e : length ys ≡ k) where
    put-length : length (put_mid a k xs ys) ≡ length xs
    put-length = same_len_mid a k xs ys (e ∙ sym part_length)

    module _ (d : X) where
      at_before : (i : ℕ) → i < a → get_or (put_mid a k xs ys) i d ≡ get_or xs i d
      at_before i l = get_or-append (take a xs) (ys ++ post_of a k xs) d i (omega (arith, before-length)) ∙ get_or-take a xs i d l

      past-before : (i : ℕ) → get_or (put_mid a k xs ys) (a + i) d ≡ get_or (ys ++ post_of a k xs) i d
      past-before i =
          ap (λ (n : ℕ). get_or (put_mid a k xs ys) (n + i) d) (sym before-length) ∙ get_or-append-add (take a xs) (ys ++ post_of a k xs) i d

      at-put : (i : ℕ) → i < k → get_or (put_mid a k xs ys) (a + i) d ≡ get_or ys i d
      at-put i l = past-before i ∙ get_or-append ys (post_of a k xs) d i (omega (arith, e))

      at_after : (i : ℕ) → get_or (put_mid a k xs ys) (a + (k + i)) d ≡ get_or xs (a + (k + i)) d
      at_after i =
          past-before (k + i)
          ∙ ap (λ (n : ℕ). get_or (ys ++ post_of a k xs) (n + i) d) (sym e)
          ∙ get_or-append-add ys (post_of a k xs) i d
          ∙ get_or-drop k (drop a xs) i d
          ∙ get_or-drop a xs (k + i) d

-- ---- a part of three columns

pub small-less : (k n m : ℕ) (c : Columns) → k ≤ n → Small n m c → Small k m c
small-less k n m c h s = record { all = λ i l. s.all i (omega (arith, h, l)) }

-- the k buckets from the a-th on
abbrev pub part_of : ℕ → ℕ → Columns → Columns
part_of a k c = columns (mid_of a k c.idsums) (mid_of a k c.hashsums) (mid_of a k c.counts)

-- the columns with p in their place
abbrev pub with_part : ℕ → ℕ → Columns → Columns → Columns
with_part a k c p = columns (put_mid a k c.idsums p.idsums) (put_mid a k c.hashsums p.hashsums) (put_mid a k c.counts p.counts)

module _ (a k : ℕ) (c : Columns) (w : Wide (a + k) c) where
  pub part-wide : Wide k (part_of a k c)
  part-wide = record {
    idsums = omega (arith, part_length a k c.idsums w.idsums);
    hashsums = omega (arith, part_length a k c.hashsums w.hashsums);
    counts = omega (arith, part_length a k c.counts w.counts);
  }

  pub part_small : (m : ℕ) → Small (a + k) m c → Small k m (part_of a k c)
  part_small m s = record {
    all = λ i l. subst (λ (z : ℤ). nat_abs z < m) (sym (at_part a k c.counts w.counts (pos 0) i l)) (s.all (a + i) (omega arith));
  }

  pub view-part : (i : ℕ) → i < k → view (part_of a k c) i ≡ view c (a + i)
  unfolding view
  view-part i l =
      bucket-same (at_part a k c.idsums w.idsums 0 i l) (at_part a k c.hashsums w.hashsums 0 i l)
      (at_part a k c.counts w.counts (pos 0) i l)

  module _ (p : Columns) (e : SameLengths p (part_of a k c)) where
    idsums-length : length p.idsums ≡ k
    idsums-length = e.0 ∙ part_length a k c.idsums w.idsums

    hashsums-length : length p.hashsums ≡ k
    hashsums-length = e.1 ∙ part_length a k c.hashsums w.hashsums

    counts-length : length p.counts ≡ k
    counts-length = e.2 ∙ part_length a k c.counts w.counts

    pub with_part-lengths : SameLengths (with_part a k c p) c
    with_part-lengths = (
      put-length a k c.idsums w.idsums p.idsums idsums-length,
      put-length a k c.hashsums w.hashsums p.hashsums hashsums-length,
      put-length a k c.counts w.counts p.counts counts-length,
    )

    pub view-before-part : (i : ℕ) → i < a → view (with_part a k c p) i ≡ view c i
    unfolding view
    view-before-part i l =
        bucket-same (at_before a k c.idsums w.idsums p.idsums idsums-length 0 i l)
        (at_before a k c.hashsums w.hashsums p.hashsums hashsums-length 0 i l)
        (at_before a k c.counts w.counts p.counts counts-length (pos 0) i l)

    pub view_with_part : (i : ℕ) → i < k → view (with_part a k c p) (a + i) ≡ view p i
    unfolding view
    view_with_part i l =
        bucket-same (at-put a k c.idsums w.idsums p.idsums idsums-length 0 i l)
        (at-put a k c.hashsums w.hashsums p.hashsums hashsums-length 0 i l)
        (at-put a k c.counts w.counts p.counts counts-length (pos 0) i l)

    view-past-part : (i : ℕ) → view (with_part a k c p) (a + (k + i)) ≡ view c (a + (k + i))
    unfolding view
    view-past-part i =
        bucket-same (at_after a k c.idsums w.idsums p.idsums idsums-length 0 i)
        (at_after a k c.hashsums w.hashsums p.hashsums hashsums-length 0 i)
        (at_after a k c.counts w.counts p.counts counts-length (pos 0) i)

    pub view-after-part : (i : ℕ) → a + k ≤ i → view (with_part a k c p) i ≡ view c i
    view-after-part i l =
        let there : a + (k + (i - (a + k))) ≡ i = omega arith in
        subst (λ (j : ℕ). view (with_part a k c p) j ≡ view c j) there (view-past-part (i - (a + k)))

-- ---- an element added to a part: its places there are moved up by a

module _ (a k n : ℕ) (ps : List ℕ) (b : Bucket) (c p : Columns) (h : a + k ≤ n) (w : Wide n c) (below : (i : ℕ) → elem i ps ≡ true → i < k)
    (e : p ≡ filled k (spread ps b (view (part_of a k c))) (part_of a k c)) where
  abbrev moved : List ℕ
  moved = map (λ i. a + i) ps

  within : Wide (a + k) c
  within = wide-less (a + k) n c h w

  same : SameLengths p (part_of a k c)
  same = filled_is_lengths k (spread ps b (view (part_of a k c))) (part_of a k c) p e

  inside : (i : ℕ) → i < k → view (with_part a k c p) (a + i) ≡ spread moved b (view c) (a + i)
  unfolding spread
  inside i l =
      view_with_part a k c within p same i l
      ∙ ap (λ (d : Columns). view d i) e
      ∙ view-filled_in k (spread ps b (view (part_of a k c))) (part_of a k c) i (part-wide a k c within) l
      ∙ ap₂ (λ (v : Bucket) (t : Bool). v ⊕ cond t b 𝟎) (view-part a k c within i l) (sym (elem-moved a i ps))

  outside : (i : ℕ) → (a ≤ i → i < a + k → ⊥) → view c i ≡ spread moved b (view c) i
  unfolding spread
  outside i o = go (elem i moved) refl
    where
      go : (t : Bool) → elem i moved ≡ t → view c i ≡ view c i ⊕ cond t b 𝟎
      go true m = let r = moved-from a i k ps below m in absurd (o r.0 r.1)
      go false m = sym (⊕-idr (view c i))

  pub spread-part : with_part a k c p ≡ filled n (spread (map (λ i. a + i) ps) b (view c)) c
  spread-part =
      filled_of n (spread moved b (view c)) c (with_part a k c p) w (with_part-lengths a k c within p same)
      (λ i l. go i (ltb i a) (ltb i (a + k)) refl refl) (λ i l. view-after-part a k c within p same i (omega (arith, h, l)))
    where
      go : (i : ℕ) (s t : Bool) → ltb i a ≡ s → ltb i (a + k) ≡ t → view (with_part a k c p) i ≡ spread moved b (view c) i
      go i true t u v =
          let l = ltb-true i a u in view-before-part a k c within p same i l ∙ outside i (λ x y. omega (arith, l, x))
      go i false true u v =
          let l = ltb-false i a u in
          let m = ltb-true i (a + k) v in
          let there : a + (i - a) ≡ i = omega arith in
          subst (λ (j : ℕ). view (with_part a k c p) j ≡ spread moved b (view c) j) there (inside (i - a) (omega (arith, l, m)))
      go i false false u v =
          let m = ltb-false i (a + k) v in view-after-part a k c within p same i m ∙ outside i (λ x y. omega (arith, m, y))

-- ---- a stratum: the part from 79 s to 79 s + 79

-- how long it is, as the code writes it
abbrev pub extent : ℕ → ℕ
extent s = 79 * s + 79 - 79 * s

extent_is : (s : ℕ) → extent s ≡ 79
extent_is s = omega arith

-- stratum s of the columns, lent alone
abbrev pub lent : ℕ → Columns → Columns
lent s c = part_of (79 * s) (extent s) c

-- the columns, with p come back as their stratum s
abbrev pub returned : ℕ → Columns → Columns → Columns
returned s c p = with_part (79 * s) (extent s) c p

module _ (s : ℕ) (c : Columns) (h : s < 32) (w : Wide 2528 c) where
  stratum-within : Wide (79 * s + extent s) c
  stratum-within = wide-less (79 * s + extent s) 2528 c (omega (arith, h, extent_is s)) w

  pub stratum-wide : Wide 79 (lent s c)
  stratum-wide = subst (λ (n : ℕ). Wide n (lent s c)) (extent_is s) (part-wide (79 * s) (extent s) c stratum-within)

  pub view-stratum : (i : ℕ) → i < 79 → view (lent s c) i ≡ stratum s (view c) i
  unfolding stratum
  view-stratum i l = view-part (79 * s) (extent s) c stratum-within i (omega (arith, l, extent_is s))

  -- a stratum changed alone, and put back
  pub with_stratum_lem : (g : ℕ → Bucket) (p : Columns) → p ≡ filled 79 g (lent s c)
      → returned s c p ≡ filled 2528 (with_stratum s g (view c)) c
  with_stratum_lem g p e =
      filled_of 2528 (with_stratum s g (view c)) c (returned s c p) w (with_part-lengths a k c v p q) (λ b l. inside b (eqb (b / 79) s) refl)
      (λ b l. view-after-part a k c v p q b (omega (arith, l, h, extent_is s)))
    where
      a : ℕ
      a = 79 * s

      k : ℕ
      k = extent s

      v : Wide (79 * s + extent s) c
      v = stratum-within

      q : SameLengths p (lent s c)
      q = filled_is_lengths 79 g (lent s c) p e

      here : (i : ℕ) → i < 79 → view (returned s c p) (79 * s + i) ≡ g i
      here i l =
          view_with_part a k c v p q i (omega (arith, l, extent_is s))
          ∙ ap (λ (d : Columns). view d i) e
          ∙ view-filled_in 79 g (lent s c) i stratum-wide l

      there : (b : ℕ) (t : Bool) → ltb b (79 * s) ≡ t → (b / 79 ≡ s → ⊥) → view (returned s c p) b ≡ view c b
      there b true l n = view-before-part a k c v p q b (ltb-true b (79 * s) l)
      there b false l n = view-after-part a k c v p q b (omega (arith, n, ltb-false b (79 * s) l, extent_is s))

      inside : (b : ℕ) (t : Bool) → eqb (b / 79) s ≡ t → view (returned s c p) b ≡ with_stratum s g (view c) b
      inside b true t =
          let m = eqb-true (b / 79) s t in
          ap (view (returned s c p)) (in_stratum_lem s b m) ∙ here (b % 79) (omega arith) ∙ sym (with_stratum_in s g (view c) b m)
      inside b false t =
          let n = eqb-false (b / 79) s t in
          there b (ltb b (79 * s)) refl n ∙ sym (with_stratum-out s g (view c) b n)

-- ---- a stratum read

module _ (salt s : ℕ) (c : Columns) (h : s < 32) (w : Wide 2528 c) where
  reading-lent : Like salt (reading (stratum_rule salt) (view (lent s c))) (reading_at salt s (view c))
  reading-lent = reading_cong (stratum_rule salt) (view (lent s c)) (stratum s (view c)) (view-stratum s c h w)

  pub stratum-counted : counted (reading (stratum_rule salt) (view (lent s c))) ≡ counted (reading_at salt s (view c))
  stratum-counted =
      ap₂ (λ (v : Verdict) (l : List Item). cond (is_complete v) (Some (length l)) None)
      (verdict_like salt (reading (stratum_rule salt) (view (lent s c))) (reading_at salt s (view c)) reading-lent) reading-lent.listed

  pub stratum-left : (p : Columns)
      → p ≡ filled 79 (left_by (strata_verdict (reading (stratum_rule salt) (view (lent s c)))) (reading (stratum_rule salt) (view (lent s c)))) (lent s c)
      → returned s c p ≡ filled 2528 (left_at salt s (view c)) c
  stratum-left p e =
      with_stratum_lem s c h w (left_by (strata_verdict q) q) p
      (e ∙ filled_cong 79 (left_by (strata_verdict r) r) (left_by (strata_verdict q) q) (lent s c) (left_like salt r q reading-lent))
    where
      r : Outcome
      r = reading (stratum_rule salt) (view (lent s c))

      q : Outcome
      q = reading_at salt s (view c)

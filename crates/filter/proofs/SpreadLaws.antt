-- An element added to all its buckets: one bucket after another it makes `spread`, and no count grows by more than one. Assumes nothing.
use mathlib.Core.Path.{◌≡◌, refl, sym, ap, ap₂, subst, ◌∙◌}
use mathlib.Core.Bool.{Bool, true, false, cond}
use mathlib.Core.List.{List, [], ◌∷◌}
use Prim.Native.Nat.{ℕ, suc, ◌+◌, ◌-◌, ◌^◌, ◌≤◌, ◌<◌, min, zero-le}
use native.Mathlib.Omega.{arith}
use borrow.Author.Tests.{lt-ltb, ltb-true, eqb-true, eqb-false}
use lib.Dec.{eqb, ltb}
use lib.IntN.{ℤ, pos, negsuc, nat_abs, sub_ℕ, ◌+ℤ◌}
use lib.ListN.{length, get_or, drop, drop_of_length-le}
use Rattle.bucket.specs.Bucket.{Bucket, ◌⊕◌, 𝟎}
use Rattle.bucket.specs.Columns.{Columns, view, place, is_small, is_open}
use Rattle.bucket.specs.Crc.{crc_tables, next_by}
use Rattle.bucket.specs.Lists.{pad, elem, Distinct}
use Rattle.bucket.specs.Places.{crc_next, places_by, places}
use Rattle.bucket.proofs.BucketLaws.{⊕-idr}
use Rattle.bucket.proofs.ColumnLaws.{SameLengths, is_open_inside, place_same, place_other, place-lengths}
use Rattle.bucket.proofs.ListLaws.{elem-nil, elem-head, elem-cons_ne}
use Rattle.bucket.proofs.PlaceLaws.{Place, place as place_of, places_by_tables, places-distinct, places-below, places_count}
use Rattle.filter.specs.Calls.{filled}
use Rattle.filter.specs.Steps.{Wide, Small, Sound, spread}
use Rattle.filter.proofs.FilledLaws.{lengths_refl, lengths_trans, wide-same, filled_of}

-- ---- bounds of counts

abs_subℕ : (a b : ℕ) → nat_abs (sub_ℕ a b) ≤ a + b
abs_subℕ a b = go (ltb a b) refl
  where
    go : (t : Bool) → ltb a b ≡ t → nat_abs (cond t (negsuc (b - suc a)) (pos (a - b))) ≤ a + b
    go true e = omega (arith, ltb-true a b e)
    go false e = omega arith

pub abs_sum : (a b : ℤ) → nat_abs (a +ℤ b) ≤ nat_abs a + nat_abs b
abs_sum (pos a) (pos b) = omega arith
abs_sum (pos a) (negsuc b) = abs_subℕ a (suc b)
abs_sum (negsuc a) (pos b) = omega (arith, abs_subℕ b (suc a))
abs_sum (negsuc a) (negsuc b) = omega arith

pub abs_small : (z : ℤ) → nat_abs z < 2 ^ 61 → is_small z ≡ true
abs_small (pos n) h = lt-ltb n (2 ^ 61) h
abs_small (negsuc n) h = lt-ltb (suc n) (2 ^ 61) h

view-count : (c : Columns) (i : ℕ) → (view c i).count ≡ get_or c.counts i (pos 0)
unfolding view
view-count c i = refl

sum-count : (a b : Bucket) → (a ⊕ b).count ≡ a.count +ℤ b.count
unfolding ◌⊕◌
sum-count a b = refl

one_more : (t : Bool) (a b : Bucket) → nat_abs b.count ≤ 1 → nat_abs (a ⊕ cond t b 𝟎).count ≤ nat_abs a.count + 1
one_more true a b h = rw (sum-count a b) (omega (arith, abs_sum a.count b.count))
one_more false a b h = rw (⊕-idr a) (omega arith)

pub small-more : (n a b : ℕ) (c : Columns) → a ≤ b → Small n a c → Small n b c
small-more n a b c h s = record { all = λ i l. omega (arith, h, s.all i l) }

-- counts that grow by at most one
pub small-spread : (n m : ℕ) (ps : List ℕ) (b : Bucket) (c c' : Columns) → nat_abs b.count ≤ 1
    → ((i : ℕ) → i < n → view c' i ≡ spread ps b (view c) i) → Small n m c → Small n (m + 1) c'
unfolding spread
small-spread n m ps b c c' h e s = record {
  all = λ i l.
      rw (sym (view-count c' i) ∙ ap (λ (v : Bucket). v.count) (e i l))
      (omega (arith, one_more (elem i ps) (view c i) b h, s.all i l, ap nat_abs (view-count c i)));
}

-- ---- one bucket

-- a bucket inside the columns is open
pub open_of : (n m : ℕ) (c : Columns) (i : ℕ) (d : ℤ) → Wide n c → Small n m c → m ≤ 2 ^ 61 → i < n → is_small d ≡ true → is_open c i d ≡ true
unfolding is_open
open_of n m c i d w s g h e =
    rw (
      lt-ltb i (length c.idsums) (omega (arith, w.idsums)),
      lt-ltb i (length c.hashsums) (omega (arith, w.hashsums)),
      lt-ltb i (length c.counts) (omega (arith, w.counts)),
      abs_small (get_or c.counts i (pos 0)) (omega (arith, s.all i h)),
      e,
    )

-- the bucket p done, those of ps to come
pub spread-next : (p : ℕ) (ps : List ℕ) (b : Bucket) (c : Columns) (i : ℕ) → is_open c p b.count ≡ true → elem p ps ≡ false
    → spread ps b (view (place c p (view c p ⊕ b))) i ≡ spread (p ∷ ps) b (view c) i
unfolding spread
spread-next p ps b c i o e = go (eqb i p) refl
  where
    go : (t : Bool) → eqb i p ≡ t → view (place c p (view c p ⊕ b)) i ⊕ cond (elem i ps) b 𝟎 ≡ view c i ⊕ cond (elem i (p ∷ ps)) b 𝟎
    go true q =
        let l = is_open_inside c p b.count o in
        rw (eqb-true i p q, place_same c p (view c p ⊕ b) l.0 l.1 l.2, e, elem-head p ps) (⊕-idr (view c p ⊕ b))
    go false q = rw (place_other c p i (view c p ⊕ b) (eqb-false i p q), elem-cons_ne i p ps (eqb-false i p q))

spread-out : (ps : List ℕ) (b : Bucket) (f : ℕ → Bucket) (i : ℕ) → elem i ps ≡ false → spread ps b f i ≡ f i
unfolding spread
spread-out ps b f i e = ap (λ (t : Bool). f i ⊕ cond t b 𝟎) e ∙ ⊕-idr (f i)

spread-nil : (b : Bucket) (f : ℕ → Bucket) (i : ℕ) → spread [] b f i ≡ f i
spread-nil b f i = spread-out [] b f i (elem-nil i)

-- ---- all buckets of an element

pub places-given : (k size h : ℕ) (t r : List ℕ) → t ≡ crc_tables → k ≤ 4 → r ≡ pad 4 (places_by (next_by t) (min 4 k) size h) → r ≡ pad 4 (places k size h)
places-given k size h t r e few q =
    q
    ∙ ap₂ (λ (u : List ℕ) (m : ℕ). pad 4 (places_by (next_by u) m size h)) e few'
    ∙ ap (pad 4) (places_by_tables k size h)
  where
    few' : min 4 k ≡ k
    few' = omega arith

-- the salt has no part in the places
pub sound_any : (size k salt : ℕ) → Sound size k salt → Sound size k 0
sound_any size k salt s = record { least = s.least; most = s.most; some = s.some; few = s.few; salt_in = omega arith }

-- the first j places done, the others to come
pub record Added (k size h : ℕ) (b : Bucket) (c₀ c : Columns) (j : ℕ) : Type 0 where
  pub within : j ≤ k
  pub lengths : SameLengths c c₀
  pub sums : (i : ℕ) → spread (drop j (places k size h)) b (view c) i ≡ spread (places k size h) b (view c₀) i
  pub apart : Distinct (drop j (places k size h))
  pub small : Small size (2 ^ 60 + j) c

pub added_start : (k size h : ℕ) (b : Bucket) (c : Columns) → Small size (2 ^ 60) c → Added k size h b c c 0
added_start k size h b c s = record {
  within = zero-le;
  lengths = lengths_refl c;
  sums = λ i. refl;
  apart = places-distinct crc_next k size h;
  small = s;
}

module _ (k size h : ℕ) (b : Bucket) (c₀ c : Columns) (j : ℕ) (sound : Sound size k 0) (w : Wide size c₀) (a : Added k size h b c₀ c j) where
  module _ (r : List ℕ) (one : nat_abs b.count ≤ 1) (e : r ≡ pad 4 (places k size h)) (l : j < k) where
    here : Place crc_next k size h r j
    here = place_of crc_next k size h 4 r j e (omega (arith, l, sound.least, sound.few))

    -- the next place is open to the element
    pub added_open : is_open c (get_or r j 0) b.count ≡ true
    added_open =
        open_of size (2 ^ 60 + j) c (get_or r j 0) b.count (wide-same size c c₀ a.lengths w) a.small
        (omega (arith, l, sound.few)) here.below (abs_small b.count (omega (arith, one)))

    pub added_next : (c' : Columns) → c' ≡ place c (get_or r j 0) (view c (get_or r j 0) ⊕ b) → Added k size h b c₀ c' (j + 1)
    added_next c' q = record {
      within = omega arith;
      lengths = lengths_trans c' c c₀ (subst (λ (d : Columns). SameLengths d c) (sym q) (place-lengths c p (view c p ⊕ b))) a.lengths;
      sums = λ i.
          ap (λ (d : Columns). spread (drop (j + 1) (places k size h)) b (view d) i) q
          ∙ spread-next p (drop (j + 1) (places k size h)) b c i added_open order.0
          ∙ ap (λ (ps : List ℕ). spread ps b (view c) i) (sym here.rest)
          ∙ a.sums i;
      apart = order.1;
      small = small-more size (2 ^ 60 + j + 1) (2 ^ 60 + (j + 1)) c' (omega arith)
          (small-spread size (2 ^ 60 + j) (p ∷ []) b c c' one
          (λ i _. ap (λ (d : Columns). view d i) q ∙ sym (spread-nil b (view (place c p (view c p ⊕ b))) i) ∙ spread-next p [] b c i added_open (elem-nil p))
          a.small);
    }
      where
        p : ℕ
        p = get_or r j 0

        order : Distinct (p ∷ drop (j + 1) (places k size h))
        order = subst Distinct here.rest a.apart

  pub added_end : k ≤ j → c ≡ filled size (spread (places k size h) b (view c₀)) c₀
  added_end l =
      filled_of size (spread (places k size h) b (view c₀)) c₀ c w a.lengths (λ i _. all i)
      (λ i g. all i ∙ outside i g)
    where
      all : (i : ℕ) → view c i ≡ spread (places k size h) b (view c₀) i
      all i =
          sym (ap (λ (ps : List ℕ). spread ps b (view c) i) none ∙ spread-nil b (view c) i) ∙ a.sums i
        where
          none : drop j (places k size h) ≡ []
          none = drop_of_length-le (places k size h) {i = j} (omega (arith, l, places_count crc_next k size h (omega (arith, sound.least, sound.few))))

      outside : (i : ℕ) → size ≤ i → spread (places k size h) b (view c₀) i ≡ view c₀ i
      outside i g = spread-out (places k size h) b (view c₀) i (not_there (elem i (places k size h)) refl)
        where
          not_there : (t : Bool) → elem i (places k size h) ≡ t → elem i (places k size h) ≡ false
          not_there true e = absurd (omega (arith, g, places-below crc_next k size h i e))
          not_there false e = e

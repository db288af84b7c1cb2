-- Laws of `filled`: which buckets are seen in columns whose first n buckets were replaced, that no column grows or shrinks, and that these two fix the columns. Assumes nothing.
use mathlib.Core.Path.{◌≡◌, refl, sym, ap, ap₂, ◌∙◌}
use mathlib.Core.Bool.{Bool, true, false, and-eq-true_iff}
use mathlib.Core.List.{List, [], ◌∷◌, ◌++◌}
use Prim.Native.Nat.{ℕ, zero, suc, ◌+◌, ◌≤◌, ◌<◌}
use native.Mathlib.Nat.{le_of_suc-le-suc}
use native.Mathlib.Numerals.{add-one}
use native.Mathlib.Omega.{arith}
use borrow.Author.Tests.{ltb-true, ltb-false, leb-true, eqb-true, eqb-false}
use lib.Dec.{eqb, ltb, leb}
use lib.IntN.{ℤ, pos}
use lib.ListN.{length, drop, set, replicate}
use lib.Seq.{ext_get_or}
use Rattle.bucket.specs.Bucket.{Bucket, 𝟎}
use Rattle.bucket.specs.Columns.{Columns, columns, view, place}
use Rattle.bucket.proofs.ColumnLaws.{SameLengths, place_same, place_other, place-lengths}
use Rattle.filter.specs.Calls.{has_room, filled}
use Rattle.filter.specs.Steps.{Wide}

-- lengths

pub lengths_refl : (c : Columns) → SameLengths c c
lengths_refl c = (refl, refl, refl)

pub lengths_sym : (a b : Columns) → SameLengths a b → SameLengths b a
lengths_sym a b p = (sym p.0, sym p.1, sym p.2)

pub lengths_trans : (a b c : Columns) → SameLengths a b → SameLengths b c → SameLengths a c
lengths_trans a b c p q = (p.0 ∙ q.0, p.1 ∙ q.1, p.2 ∙ q.2)

pub filled-lengths : (n : ℕ) (f : ℕ → Bucket) (c : Columns) → SameLengths (filled n f c) c
unfolding filled
filled-lengths zero f c = (refl, refl, refl)
filled-lengths (suc n) f c =
    lengths_trans (place (filled n f c) n (f n)) (filled n f c) c (place-lengths (filled n f c) n (f n)) (filled-lengths n f c)

pub filled_is_lengths : (n : ℕ) (f : ℕ → Bucket) (c c' : Columns) → c' ≡ filled n f c → SameLengths c' c
filled_is_lengths n f c c' e =
    let p = filled-lengths n f c in (
      ap (λ (d : Columns). length d.idsums) e ∙ p.0,
      ap (λ (d : Columns). length d.hashsums) e ∙ p.1,
      ap (λ (d : Columns). length d.counts) e ∙ p.2,
    )

pub wide-same : (n : ℕ) (a b : Columns) → SameLengths a b → Wide n b → Wide n a
wide-same n a b p w =
    record { idsums = omega (arith, p.0, w.idsums); hashsums = omega (arith, p.1, w.hashsums); counts = omega (arith, p.2, w.counts) }

pub wide-less : (m n : ℕ) (c : Columns) → m ≤ n → Wide n c → Wide m c
wide-less m n c h w =
    record { idsums = omega (arith, w.idsums); hashsums = omega (arith, w.hashsums); counts = omega (arith, w.counts) }

pub wide-filled : (m n : ℕ) (f : ℕ → Bucket) (c : Columns) → Wide n c → Wide n (filled m f c)
wide-filled m n f c w = wide-same n (filled m f c) c (filled-lengths m f c) w

pub wide_of : (n : ℕ) (c : Columns) → has_room n c ≡ true → Wide n c
unfolding has_room
wide_of n c e =
    let p = (and-eq-true_iff (leb n (length c.idsums)) _).0 e in
    let q = (and-eq-true_iff (leb n (length c.hashsums)) _).0 p.1 in
    record { idsums = leb-true _ _ p.0; hashsums = leb-true _ _ q.0; counts = leb-true _ _ q.1 }

-- one bucket after another

pub filled_none : (f : ℕ → Bucket) (c : Columns) → c ≡ filled 0 f c
unfolding filled
filled_none f c = refl

pub filled_next : (n : ℕ) (f : ℕ → Bucket) (c : Columns) → place (filled n f c) n (f n) ≡ filled (n + 1) f c
unfolding filled
filled_next n f c = ap (λ (m : ℕ). filled m f c) (sym (add-one n))

-- which buckets are seen

pub view-filled-out : (n : ℕ) (f : ℕ → Bucket) (c : Columns) (i : ℕ) → n ≤ i → view (filled n f c) i ≡ view c i
unfolding filled
view-filled-out zero f c i h = refl
view-filled-out (suc n) f c i h =
    place_other (filled n f c) n i (f n) (λ e. omega (arith, e, h)) ∙ view-filled-out n f c i (omega arith)

pub view-filled_in : (n : ℕ) (f : ℕ → Bucket) (c : Columns) (i : ℕ) → Wide n c → i < n → view (filled n f c) i ≡ f i
unfolding filled
view-filled_in zero f c i w h = absurd (omega arith)
view-filled_in (suc n) f c i w h = go (eqb i n) refl (view-filled_in n f c i (wide-less n (suc n) c (omega arith) w))
  where
    go : (t : Bool) → eqb i n ≡ t → (i < n → view (filled n f c) i ≡ f i) → view (place (filled n f c) n (f n)) i ≡ f i
    go true e ih =
        let k = wide-filled n (suc n) f c w in
        ap (view (place (filled n f c) n (f n))) (eqb-true i n e)
        ∙ place_same (filled n f c) n (f n) k.idsums k.hashsums k.counts
        ∙ ap f (sym (eqb-true i n e))
    go false e ih = let ne = eqb-false i n e in place_other (filled n f c) n i (f n) ne ∙ ih (omega (arith, h, ne))

-- the lengths and the buckets fix the columns

columns-same : {is is' hs hs' : List ℕ} {cs cs' : List ℤ} → is ≡ is' → hs ≡ hs' → cs ≡ cs' → columns is hs cs ≡ columns is' hs' cs'
columns-same p q r = λ k. columns (p k) (q k) (r k)

pub columns_ext : (a b : Columns) → SameLengths a b → ((i : ℕ) → view a i ≡ view b i) → a ≡ b
unfolding view
columns_ext a b p h =
    columns-same (ext_get_or 0 a.idsums b.idsums p.0 (λ i _. ap (λ (v : Bucket). v.idsum) (h i)))
    (ext_get_or 0 a.hashsums b.hashsums p.1 (λ i _. ap (λ (v : Bucket). v.hashsum) (h i)))
    (ext_get_or (pos 0) a.counts b.counts p.2 (λ i _. ap (λ (v : Bucket). v.count) (h i)))

pub filled_of : (n : ℕ) (f : ℕ → Bucket) (c c' : Columns) → Wide n c → SameLengths c' c
    → ((i : ℕ) → i < n → view c' i ≡ f i) → ((i : ℕ) → n ≤ i → view c' i ≡ view c i) → c' ≡ filled n f c
filled_of n f c c' w p inside outside =
    columns_ext c' (filled n f c)
    (lengths_trans c' c (filled n f c) p (lengths_sym (filled n f c) c (filled-lengths n f c)))
    (λ i. go i (ltb i n) refl)
  where
    go : (i : ℕ) (t : Bool) → ltb i n ≡ t → view c' i ≡ view (filled n f c) i
    go i true e = let h = ltb-true i n e in inside i h ∙ sym (view-filled_in n f c i w h)
    go i false e = let h = ltb-false i n e in outside i h ∙ sym (view-filled-out n f c i h)

pub filled_cong : (n : ℕ) (f g : ℕ → Bucket) (c : Columns) → ((i : ℕ) → i < n → f i ≡ g i) → filled n f c ≡ filled n g c
unfolding filled
filled_cong zero f g c h = refl
filled_cong (suc n) f g c h =
    ap₂ (λ (d : Columns) (b : Bucket). place d n b) (filled_cong n f g c (λ i k. h i (omega (arith, k)))) (h n (omega arith))

pub filled-filled : (n : ℕ) (f g : ℕ → Bucket) (c : Columns) → Wide n c → filled n g (filled n f c) ≡ filled n g c
filled-filled n f g c w =
    filled_of n g c (filled n g (filled n f c)) w
    (lengths_trans (filled n g (filled n f c)) (filled n f c) c (filled-lengths n g (filled n f c)) (filled-lengths n f c))
    (λ i h. view-filled_in n g (filled n f c) i (wide-filled n n f c w) h)
    (λ i h. view-filled-out n g (filled n f c) i h ∙ view-filled-out n f c i h)

pub filled-view : (n : ℕ) (c : Columns) → Wide n c → filled n (view c) c ≡ c
filled-view n c w = sym (filled_of n (view c) c c w (lengths_refl c) (λ i h. refl) (λ i h. refl))

-- ---- places filled with one value

one_more : {A : Type 0} (a : A) (n : ℕ) (l : List A) → n < length l → replicate (suc n) a ++ drop (suc n) l ≡ set (replicate n a ++ drop n l) n a
one_more a n [] h = absurd (omega arith)
one_more a zero (x ∷ l) h = refl
one_more a (suc n) (x ∷ l) h = ap (a ∷◌) (one_more a n l (le_of_suc-le-suc h))

-- zeros in the first n places of each column are zero buckets
pub filled_zeros : (n : ℕ) (c : Columns) → Wide n c
    → columns (replicate n 0 ++ drop n c.idsums) (replicate n 0 ++ drop n c.hashsums) (replicate n (pos 0) ++ drop n c.counts) ≡ filled n (λ i. 𝟎) c
unfolding filled place 𝟎
filled_zeros zero c w = refl
filled_zeros (suc n) c w =
    columns-same (one_more 0 n c.idsums w.idsums) (one_more 0 n c.hashsums w.hashsums) (one_more (pos 0) n c.counts w.counts)
    ∙ ap (λ (d : Columns). place d n 𝟎) (filled_zeros n c (wide-less n (suc n) c (omega arith) w))

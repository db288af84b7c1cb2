-- What a bucket that looks pure tells of its item, and that taking it out of its places is the definition's removal. Assumes nothing.
use mathlib.Core.Path.{◌≡◌, refl, sym, ap, ap₂, ◌∙◌}
use mathlib.Core.Bool.{Bool, true, false, cond, and-eq-true_iff, false≢true}
use mathlib.Core.List.{List}
use Prim.Native.Nat.{ℕ, zero, suc, ◌^◌, ◌≤◌, ◌<◌}
use native.Mathlib.Omega.{arith}
use lib.Dec.{eqb}
use lib.IntN.{ℤ, pos, negsuc, nat_abs}
use borrow.Author.Tests.{eqb-true}
use Rattle.bucket.specs.Bucket.{Bucket, bucket, ◌⊕◌, neg, 𝟎, is_one}
use Rattle.bucket.specs.Crc.{crc_of}
use Rattle.bucket.specs.Lists.{elem}
use Rattle.bucket.specs.Places.{crc_next, places}
use Rattle.bucket.specs.Salt.{salted, unsalted}
use Rattle.bucket.proofs.BucketLaws.{bucket-same, neg-𝟎, ⊕-idr}
use Rattle.bucket.proofs.PlaceLaws.{places-below}
use Rattle.bucket.proofs.SaltLaws.{salted-unsalted}
use Rattle.filter.specs.Filter.{Item, id_of, Rule, rule, touches, cell, put}
use Rattle.filter.specs.Peeling.{sided, is_pure, remove}
use Rattle.filter.specs.Steps.{spread}

pub id-sided : (z : ℤ) (a : ℕ) → id_of (sided z a) ≡ a
id-sided (pos n) a = refl
id-sided (negsuc n) a = refl

pub abs_one : (z : ℤ) → is_one z ≡ true → nat_abs z ≤ 1
abs_one (pos zero) e = omega arith
abs_one (pos (suc zero)) e = omega arith
abs_one (pos (suc (suc n))) e = absurd (false≢true e)
abs_one (negsuc zero) e = omega arith
abs_one (negsuc (suc n)) e = absurd (false≢true e)

-- the item's own bucket
cell-sided : (R : Rule) (z : ℤ) (a : ℕ) → is_one z ≡ true → cell R (sided z a) ≡ bucket (R.code a) (R.check (R.code a)) z
unfolding cell
cell-sided R (pos zero) a e = absurd (false≢true e)
cell-sided R (pos (suc zero)) a e = refl
cell-sided R (pos (suc (suc n))) a e = absurd (false≢true e)
cell-sided R (negsuc zero) a e = refl
cell-sided R (negsuc (suc n)) a e = absurd (false≢true e)

module _ (k size salt b x h : ℕ) (z : ℤ) (pure : is_pure (rule k size salt) b (bucket x h z) ≡ true) where
  pub pure_one : is_one z ≡ true
  unfolding is_pure
  pure_one = ((and-eq-true_iff (is_one z) _).0 pure).0

  pub pure_sum : h ≡ crc_of x
  unfolding is_pure
  pure_sum = eqb-true h (crc_of x) ((and-eq-true_iff (eqb h (crc_of x)) _).0 ((and-eq-true_iff (is_one z) _).0 pure).1).0

  module _ (fit : x < 2 ^ 64) where
    back : salted salt (unsalted salt x) ≡ x
    back = salted-unsalted salt x fit

    pure_cell : cell (rule k size salt) (sided z (unsalted salt x)) ≡ bucket x h z
    pure_cell =
        cell-sided (rule k size salt) z (unsalted salt x) pure_one ∙ bucket-same back (ap crc_of back ∙ sym pure_sum) refl

    pure_places : places k size (crc_of (salted salt (id_of (sided z (unsalted salt x))))) ≡ places k size h
    pure_places =
        ap (places k size) (ap (λ (v : ℕ). crc_of (salted salt v)) (id-sided z (unsalted salt x)) ∙ ap crc_of back ∙ sym pure_sum)

    pub pure_removed : (f : ℕ → Bucket) (i : ℕ)
        → spread (places k size h) (neg (bucket x h z)) f i ≡ remove (rule k size salt) (sided z (unsalted salt x)) f i
    unfolding spread remove put touches
    pure_removed f i =
        ap (λ (v : Bucket). f i ⊕ v)
        (into (elem i (places k size h))
        ∙ ap₂ (λ (t : Bool) (v : Bucket). neg (cond t v 𝟎)) (ap (elem i) (sym pure_places)) (sym pure_cell))
      where
        into : (t : Bool) → cond t (neg (bucket x h z)) 𝟎 ≡ neg (cond t (bucket x h z) 𝟎)
        into true = refl
        into false = sym neg-𝟎

-- an item has no place past the size
pub removed_past : (k size salt : ℕ) (x : Item) (f : ℕ → Bucket) (i : ℕ) → size ≤ i → remove (rule k size salt) x f i ≡ f i
unfolding remove put touches
removed_past k size salt x f i h =
    ap (λ (t : Bool). f i ⊕ neg (cond t (cell (rule k size salt) x) 𝟎)) (out (elem i ps) refl)
    ∙ ap (λ (v : Bucket). f i ⊕ v) neg-𝟎
    ∙ ⊕-idr (f i)
  where
    ps : List ℕ
    ps = places k size (crc_of (salted salt (id_of x)))

    out : (t : Bool) → elem i ps ≡ t → t ≡ false
    out true e = absurd (omega (arith, h, places-below crc_next k size (crc_of (salted salt (id_of x))) i e))
    out false e = refl

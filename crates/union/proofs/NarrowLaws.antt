-- What a reading lists has 64 bits where the IDSUMs that it reads have, and a filter made by the rules has IDSUMs of 64 bits and HASHSUMs of 32.
--
--   IdsFit f                     each bucket's IDSUM is below 2^64
--   filter_ids, filter_hashes    of the filter of IDs
--   reading-ids                  of what a peeling lists and of what remains
--   theirs-fit                   of the IDs that a reading in a session lists as theirs
--   reading-columns              of the columns that it leaves
--
-- Assumes nothing.
use mathlib.Core.Path.{◌≡◌, refl, sym, ap, subst, ◌∙◌}
use mathlib.Core.Bool.{Bool, true, false, ◌||◌, cond, false≢true}
use mathlib.Core.List.{List, [], ◌∷◌, reverse}
use mathlib.Core.Option.{some}
use Prim.Native.Nat.{ℕ, zero, suc, ◌^◌, ◌<◌}
use lib.Bits.{xor_lt}
use lib.Pow.{pow_pos}
use Rattle.bucket.specs.Bucket.{Bucket, ◌⊕◌, neg, 𝟎}
use Rattle.bucket.specs.Columns.{Columns, view, place}
use Rattle.bucket.specs.Digits.{Below}
use Rattle.bucket.specs.Lists.{elem}
use Rattle.bucket.specs.Places.{place_count}
use Rattle.bucket.specs.Salt.{salted, unsalted}
use Rattle.bucket.proofs.CrcLaws.{crc_lt}
use Rattle.bucket.proofs.ListLaws.{elem-head, elem_tail, elem_cases, or_true_r}
use Rattle.bucket.proofs.SaltLaws.{salted_lt, unsalted_lt}
use Rattle.filter.specs.declared.answers.Verdict.{Verdict}
use Rattle.filter.specs.declared.answers.Verdict.TheVariants.{Complete, Stuck, False}
use Rattle.filter.specs.Calls.{filled, read_with, outcome_of, verdict_of, looked_of}
use Rattle.filter.specs.Filter.{Item, ours, theirs, id_of, ids, ours_of, theirs_of, Rule, rule, touches, cell, put, sum_at, filter_of, difference}
use Rattle.filter.specs.Peeling.{Next, nothing, again, take, Outcome, remove, next, run, reading}
use Rattle.filter.proofs.GrantedLaws.{listed_back}
use Rattle.filter.proofs.PeelLaws.{first_some, looks, look-some, look_pure, shown, next-take, listed_sides}
use Rattle.filter.proofs.PureLaws.{id-sided}
use Rattle.filter.proofs.SelectLaws.{elem-reverse}
use Rattle.ledger.specs.Session.{is_complete, theirs_in, ids_of, reading_at}
use Rattle.filter.proofs.SetLaws.{◌∈◌, not_in_nil}
use Rattle.ledger.proofs.BelowLaws.{Fit, set_below}

abbrev pub IdsFit : (ℕ → Bucket) → Type 0
IdsFit f = (i : ℕ) → (f i).idsum < 2 ^ 64

module _ (k size salt : ℕ) where
  abbrev R : Rule
  R = rule k size salt

  put-ids : (x : Item) → id_of x < 2 ^ 64 → (i : ℕ) → (put R x i).idsum < 2 ^ 64
  unfolding put
  put-ids x h i = go (touches R x i)
    where
      own : (y : Item) → id_of y < 2 ^ 64 → (cell R y).idsum < 2 ^ 64
      own (ours a) l = unfold cell in salted_lt salt a l
      own (theirs a) l = unfold cell in salted_lt salt a l

      go : (t : Bool) → (cond t (cell R x) 𝟎).idsum < 2 ^ 64
      go true = own x h
      go false = unfold 𝟎 in pow_pos 64

  put-hashes : (x : Item) (i : ℕ) → (put R x i).hashsum < 2 ^ 32
  unfolding put
  put-hashes x i = go (touches R x i)
    where
      own : (y : Item) → (cell R y).hashsum < 2 ^ 32
      own (ours a) = unfold cell in crc_lt (salted salt a)
      own (theirs a) = unfold cell in crc_lt (salted salt a)

      go : (t : Bool) → (cond t (cell R x) 𝟎).hashsum < 2 ^ 32
      go true = own x
      go false = unfold 𝟎 in pow_pos 32

  -- ---- made by the rules

  pub filter_ids : (t : List ℕ) → Fit 64 t → IdsFit (filter_of R t)
  unfolding filter_of sum_at 𝟎 ◌⊕◌
  filter_ids [] f i = pow_pos 64
  filter_ids (a ∷ t) f i =
      xor_lt 64 (put R (ours a) i).idsum (filter_of R t i).idsum (put-ids (ours a) (f a (elem-head a t)) i) (filter_ids t (λ x e. f x (elem_tail x a t e)) i)

  pub filter_hashes : (t : List ℕ) (i : ℕ) → (filter_of R t i).hashsum < 2 ^ 32
  unfolding filter_of sum_at 𝟎 ◌⊕◌
  filter_hashes [] i = pow_pos 32
  filter_hashes (a ∷ t) i = xor_lt 32 (put R (ours a) i).hashsum (filter_of R t i).hashsum (put-hashes (ours a) i) (filter_hashes t i)

  pub difference-ids : (t : List ℕ) (g : ℕ → Bucket) → Fit 64 t → IdsFit g → IdsFit (difference R t g)
  unfolding difference ◌⊕◌ neg
  difference-ids t g f h i = xor_lt 64 (filter_of R t i).idsum (g i).idsum (filter_ids t f i) (h i)

  -- ---- peeled

  remove-ids : (x : Item) (f : ℕ → Bucket) → id_of x < 2 ^ 64 → IdsFit f → IdsFit (remove R x f)
  unfolding remove ◌⊕◌ neg
  remove-ids x f l h i = xor_lt 64 (f i).idsum (put R x i).idsum (h i) (put-ids x l i)

  some_same : {x y : Item} → some x ≡ some y → x ≡ y
  some_same e = cc

  -- the item that is taken is shown by a bucket
  next-ids : (acc : List Item) (f : ℕ → Bucket) (x : Item) → IdsFit f → next R acc f ≡ take x → id_of x < 2 ^ 64
  next-ids acc f x h e =
      let (j, low, high, there) = first_some (looks R f) 0 size x (next-take R acc f x e).0 in
      let same : shown R (f j) ≡ x = some_same (sym (look_pure R j (f j) (look-some R j (f j) x there)) ∙ there) in
      subst (λ (n : ℕ). n < 2 ^ 64) (sym (id-sided (f j).count (unsalted salt (f j).idsum)) ∙ ap id_of same) (unsalted_lt salt (f j).idsum (h j))

  pub record Peeled (l : List Item) (f : ℕ → Bucket) : Type 0 where
    pub listed : Fit 64 (ids l)
    pub rest : IdsFit f

  run-ids : (n : ℕ) (m : Next) (acc : List Item) (f : ℕ → Bucket) → next R acc f ≡ m → Peeled acc f → Peeled (run R n m acc f).listed (run R n m acc f).rest
  unfolding run
  run-ids zero nothing acc f e p = p
  run-ids zero again acc f e p = p
  run-ids zero (take x) acc f e p = p
  run-ids (suc n) nothing acc f e p = p
  run-ids (suc n) again acc f e p = p
  run-ids (suc n) (take x) acc f e p =
      let l = next-ids acc f x p.rest e in
      run-ids n (next R (x ∷ acc) (remove R x f)) (x ∷ acc) (remove R x f) refl (record {
        listed = λ a m. elem_cases (λ (z : ℕ). z < 2 ^ 64) a (id_of x) (ids acc) m l (p.listed a);
        rest = remove-ids x f l p.rest;
      })

  pub reading-ids : (f : ℕ → Bucket) → IdsFit f → Peeled (reading R f).listed (reading R f).rest
  unfolding reading
  reading-ids f h = run-ids size (next R [] f) [] f refl (record { listed = λ a m. absurd (not_in_nil a m); rest = h })

-- ---- columns

view-ids : (c : Columns) → Below 64 c.idsums → IdsFit (view c)
unfolding view
view-ids c b i = b i

pub filled-ids : (n : ℕ) (f : ℕ → Bucket) (c : Columns) → IdsFit f → Below 64 c.idsums → Below 64 (filled n f c).idsums
unfolding filled place
filled-ids zero f c h b = b
filled-ids (suc n) f c h b = set_below 64 (filled n f c).idsums n (f n).idsum (filled-ids n f c h b) (h n)

pub filled-hashes : (n : ℕ) (f : ℕ → Bucket) (c : Columns) → ((i : ℕ) → (f i).hashsum < 2 ^ 32) → Below 32 c.hashsums → Below 32 (filled n f c).hashsums
unfolding filled place
filled-hashes zero f c h b = b
filled-hashes (suc n) f c h b = set_below 32 (filled n f c).hashsums n (f n).hashsum (filled-hashes n f c h b) (h n)

pub cleared-ids : (n : ℕ) (c : Columns) → Below 64 c.idsums → Below 64 (filled n (λ i. 𝟎) c).idsums
unfolding 𝟎
cleared-ids n c b = filled-ids n (λ i. 𝟎) c (λ i. pow_pos 64) b

-- ---- the reading in a session

module _ (derive : ℕ → ℕ) (t : List ℕ) (size salt : ℕ) (c : Columns) (o th : List ℕ) (own : Fit 64 (ids_of derive t)) (b : Below 64 c.idsums) where
  abbrev r : Outcome
  r = outcome_of (ids_of derive t) size salt c

  abbrev l : ℕ
  l = looked_of (ids_of derive t) size salt c

  peeled : Peeled (place_count size) size salt r.listed r.rest
  peeled = reading-ids (place_count size) size salt _ (difference-ids (place_count size) size salt (ids_of derive t) (view c) own (view-ids c b))

  -- what is listed as theirs
  pub theirs-fit : is_complete (reading_at derive t size salt c o th) ≡ true → Fit 64 (theirs_in (reading_at derive t size salt c o th))
  unfolding reading_at read_with
  theirs-fit = go (verdict_of (ids_of derive t) size salt c)
    where
      listed : theirs_in (read_with Complete size r l c o th) ≡ reverse (theirs_of r.listed)
      listed = listed_back size (theirs_of r.listed) th

      go : (v : Verdict) → is_complete (read_with v size r l c o th) ≡ true → Fit 64 (theirs_in (read_with v size r l c o th))
      go Complete k = λ x e. peeled.listed x
          (listed_sides x r.listed
          ∙ ap (λ (q : Bool). elem x (ours_of r.listed) || q) (sym (elem-reverse x (theirs_of r.listed)) ∙ subst (λ (l : List ℕ). x ∈ l) listed e)
          ∙ or_true_r (elem x (ours_of r.listed)))
      go Stuck k = absurd (false≢true k)
      go False k = absurd (false≢true k)

  -- the columns that it leaves
  pub reading-columns : Below 64 (reading_at derive t size salt c o th).columns.idsums
  unfolding reading_at read_with
  reading-columns = go (verdict_of (ids_of derive t) size salt c)
    where
      go : (v : Verdict) → Below 64 (read_with v size r l c o th).columns.idsums
      go Complete = filled-ids size r.rest c peeled.rest b
      go Stuck = filled-ids size r.rest c peeled.rest b
      go False = cleared-ids size c b

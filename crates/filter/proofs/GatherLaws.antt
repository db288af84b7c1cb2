-- The elements of a table added one after another: what is in the columns and what is still to come are together the filter over
-- what was there. Stated over any rule. Assumes nothing.
use mathlib.Core.Path.{◌≡◌, refl, sym, ap, ap₂, ◌∙◌}
use mathlib.Core.Bool.{cond}
use mathlib.Core.List.{List, ◌∷◌}
use Prim.Native.Nat.{ℕ, ◌+◌, ◌^◌, ◌≤◌, ◌<◌, zero-le}
use native.Mathlib.Numerals.{add-one}
use native.Mathlib.Omega.{arith}
use lib.IntN.{pos}
use lib.ListN.{length, get_or, drop, drop_of_length-le}
use lib.Seq.{drop-cons}
use Rattle.bucket.specs.Bucket.{Bucket, bucket, ◌⊕◌, 𝟎}
use Rattle.bucket.specs.Columns.{Columns, view}
use Rattle.bucket.specs.Crc.{crc_of, crc_tables, crc_by}
use Rattle.bucket.specs.Lists.{elem}
use Rattle.bucket.proofs.BucketLaws.{⊕-assoc, ⊕-idr}
use Rattle.bucket.proofs.ColumnLaws.{SameLengths}
use Rattle.bucket.proofs.TableLaws.{crc_by_tables}
use Rattle.filter.specs.Filter.{ours, Rule, touches, cell, put, sum_at, filter_of}
use Rattle.filter.specs.Calls.{filled}
use Rattle.filter.specs.Steps.{Wide, Small, spread}
use Rattle.filter.proofs.FilledLaws.{lengths_refl, lengths_trans, filled_is_lengths, wide-same, view-filled_in, view-filled-out, filled_of}
use Rattle.filter.proofs.SpreadLaws.{small-more, small-spread}

-- an element spread over its places is what the rule puts there; x is its salted ID, h the check sum and ps the places
pub spread-put : (R : Rule) (id x h : ℕ) (ps : List ℕ) (f : ℕ → Bucket) (i : ℕ) → x ≡ R.code id → h ≡ R.check x → ps ≡ R.places x
    → spread ps (bucket x h (pos 1)) f i ≡ f i ⊕ put R (ours id) i
unfolding spread put touches cell
spread-put R id x h ps f i ex eh ep =
    ap₂ (λ (v : ℕ) (qs : List ℕ). f i ⊕ cond (elem i qs) (bucket x v (pos 1)) 𝟎) eh ep
    ∙ ap (λ (v : ℕ). f i ⊕ cond (elem i (R.places v)) (bucket v (R.check v) (pos 1)) 𝟎) ex

pub crc_given : (t : List ℕ) (x h : ℕ) → t ≡ crc_tables → h ≡ crc_by t x → h ≡ crc_of x
crc_given t x h e q = q ∙ ap (λ (u : List ℕ). crc_by u x) e ∙ crc_by_tables x

-- the first e elements are in, the others still to come
pub record Gathered (R : Rule) (ids : List ℕ) (c₀ c : Columns) (e : ℕ) : Type 0 where
  pub within : e ≤ length ids
  pub lengths : SameLengths c c₀
  pub sums : (i : ℕ) → i < R.size → view c i ⊕ filter_of R (drop e ids) i ≡ view c₀ i ⊕ filter_of R ids i
  pub past : (i : ℕ) → R.size ≤ i → view c i ≡ view c₀ i
  pub small : Small R.size (2 ^ 33 + e) c

pub gathered-start : (R : Rule) (ids : List ℕ) (c : Columns) → Small R.size (2 ^ 33) c → Gathered R ids c c 0
gathered-start R ids c s = record {
  within = zero-le;
  lengths = lengths_refl c;
  sums = λ i _. refl;
  past = λ i _. refl;
  small = s;
}

module _ (R : Rule) (ids : List ℕ) (c₀ c : Columns) (e : ℕ) (w : Wide R.size c₀) (g : Gathered R ids c₀ c e) where
  pub gathered-wide : Wide R.size c
  gathered-wide = wide-same R.size c c₀ g.lengths w

  pub gathered-small : length ids ≤ 4096 → Small R.size (2 ^ 60) c
  gathered-small few = small-more R.size (2 ^ 33 + e) (2 ^ 60) c (omega (arith, g.within)) g.small

  pub gathered_next : (id x h : ℕ) (ps : List ℕ) (c' : Columns) → e < length ids → id ≡ get_or ids e 0 → x ≡ R.code id → h ≡ R.check x
      → ps ≡ R.places x → c' ≡ filled R.size (spread ps (bucket x h (pos 1)) (view c)) c → Gathered R ids c₀ c' (e + 1)
  unfolding filter_of sum_at
  gathered_next id x h ps c' l ei ex eh ep q = record {
    within = omega arith;
    lengths = lengths_trans c' c c₀ (filled_is_lengths R.size (spread ps (bucket x h (pos 1)) (view c)) c c' q) g.lengths;
    sums = λ i n.
        ap (λ (v : Bucket). v ⊕ filter_of R (drop (e + 1) ids) i) (inside i n ∙ spread-put R id x h ps (view c) i ex eh ep)
        ∙ ⊕-assoc (view c i) (put R (ours id) i) (filter_of R (drop (e + 1) ids) i)
        ∙ ap (λ (rest : List ℕ). view c i ⊕ filter_of R rest i) (sym rest_is)
        ∙ g.sums i n;
    past = λ i n.
        ap (λ (d : Columns). view d i) q
        ∙ view-filled-out R.size (spread ps (bucket x h (pos 1)) (view c)) c i n
        ∙ g.past i n;
    small = small-more R.size (2 ^ 33 + e + 1) (2 ^ 33 + (e + 1)) c' (omega arith)
        (small-spread R.size (2 ^ 33 + e) ps (bucket x h (pos 1)) c c' (omega arith) inside g.small);
  }
    where
      inside : (i : ℕ) → i < R.size → view c' i ≡ spread ps (bucket x h (pos 1)) (view c) i
      inside i n =
          ap (λ (d : Columns). view d i) q ∙ view-filled_in R.size (spread ps (bucket x h (pos 1)) (view c)) c i gathered-wide n

      rest_is : drop e ids ≡ id ∷ drop (e + 1) ids
      rest_is = drop-cons ids e 0 l ∙ ap₂ (λ (v m : ℕ). v ∷ drop m ids) (sym ei) (sym (add-one e))

  pub gathered-end : length ids ≤ e → c ≡ filled R.size (λ i. view c₀ i ⊕ filter_of R ids i) c₀
  unfolding filter_of sum_at
  gathered-end l = filled_of R.size (λ i. view c₀ i ⊕ filter_of R ids i) c₀ c w g.lengths all g.past
    where
      all : (i : ℕ) → i < R.size → view c i ≡ view c₀ i ⊕ filter_of R ids i
      all i n =
          sym (ap (λ (rest : List ℕ). view c i ⊕ filter_of R rest i) (drop_of_length-le ids l) ∙ ⊕-idr (view c i)) ∙ g.sums i n

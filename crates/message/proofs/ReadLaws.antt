-- The definition of reading, along the ways of the code: what `parse` and `parse_slice` are where their tests are known, and the ranges of a slice that fits.
-- Assumes nothing.
use mathlib.Core.Path.{◌≡◌}
use mathlib.Core.Bool.{Bool, true, ◌&&◌, ◌||◌, and-eq-true_iff}
use mathlib.Core.List.{List}
use Prim.Native.Nat.{ℕ, ◌+◌, ◌*◌, ◌^◌, ◌≤◌, ◌<◌}
use native.Mathlib.Omega.{arith}
use borrow.Author.Tests.{le-leb, lt-leb, eq-eqb, ne_eqb, ltb-true, leb-true, eqb-true}
use lib.Dec.{eqb}
use lib.ListN.{length, drop, length-take}
use lib.Pow.{pow_mono}
use Rattle.std.proofs.Common.{None}
use Rattle.bucket.specs.Lists.{part}
use Rattle.bucket.proofs.DigitLaws.{joined_lt}
use Rattle.message.specs.Layout.{IBF, IBF_LAST, in_slice, slice_type, slice_bytes}
use Rattle.message.specs.Reading.{field, slice_fits, slice_of, parse, parse_body, parse_slice}

pub both : (a b : Bool) → (a && b) ≡ true → (a ≡ true) × (b ≡ true)
both a b h = (and-eq-true_iff a b).0 h

pub short : (bs : List ℕ) → length bs < 4 → None ≡ parse bs
unfolding parse
short bs h = rw (lt-leb 4 (length bs) h)

pub other_size : (bs : List ℕ) → (field 2 0 bs ≡ length bs → ⊥) → 4 ≤ length bs → None ≡ parse bs
unfolding parse
other_size bs h l = rw (le-leb 4 (length bs) l, ne_eqb (field 2 0 bs) (length bs) h)

-- of the right size and with type t
pub typed : (bs : List ℕ) (t : ℕ) → 4 ≤ length bs → field 2 0 bs ≡ length bs → t ≡ field 2 2 bs → parse_body t bs ≡ parse bs
unfolding parse
typed bs t l h e = rw (le-leb 4 (length bs) l, eq-eqb (field 2 0 bs) (length bs) h, e)

-- the type of a slice of n buckets
module _ (size offset : ℕ) {n : ℕ} (e : n ≡ in_slice size offset) where
  pub reaches_end : offset + n ≡ size → IBF_LAST ≡ slice_type size offset
  reaches_end h = rw (eq-eqb (offset + in_slice size offset) size (rw e at h))

  pub stops-before : (offset + n ≡ size → ⊥) → IBF ≡ slice_type size offset
  stops-before h = rw (ne_eqb (offset + in_slice size offset) size (rw e at h))

-- the ranges of a slice that fits
pub record Ranges (type size offset salt width len : ℕ) : Type 0 where
  pub low : 37 ≤ size
  pub high : size ≤ 4096
  pub start : (eqb offset 0 || eqb offset 2520) ≡ true
  pub below : offset < size
  pub salt-fits : salt < 64
  pub some : 1 ≤ width
  pub most : width ≤ 32
  pub kind : type ≡ slice_type size offset
  pub all : len ≡ slice_bytes width (in_slice size offset)

pub slice-ranges : (type size offset salt width len : ℕ) → slice_fits type size offset salt width len ≡ true → Ranges type size offset salt width len
slice-ranges type size offset salt width len h =
    let h8 = both _ _ h in
    let h7 = both _ _ h8.0 in
    let h6 = both _ _ h7.0 in
    let h5 = both _ _ h6.0 in
    let h4 = both _ _ h5.0 in
    let h3 = both _ _ h4.0 in
    let h2 = both _ _ h3.0 in
    let h1 = both _ _ h2.0 in
    record {
      low = leb-true 37 size h1.0;
      high = leb-true size 4096 h1.1;
      start = h2.1;
      below = ltb-true offset size h3.1;
      salt-fits = ltb-true salt 64 h4.1;
      some = leb-true 1 width h5.1;
      most = leb-true width 32 h6.1;
      kind = eqb-true type (slice_type size offset) h7.1;
      all = eqb-true len (slice_bytes width (in_slice size offset)) h8.1;
    }

pub slice_fields : (t : ℕ) (bs : List ℕ) {size offset salt width : ℕ} → 16 ≤ length bs
    → size ≡ field 4 4 bs → offset ≡ field 4 8 bs → salt ≡ field 2 12 bs → width ≡ field 2 14 bs → slice_of t size offset salt width bs ≡ parse_slice t bs
unfolding parse_slice
slice_fields t bs l a b c d = rw (le-leb 16 (length bs) l, a, b, c, d)

-- what stands in k bytes, or in those that are there
pub field_lt : (k at : ℕ) (bs : List ℕ) → field k at bs < 2 ^ (8 * k)
field_lt k at bs =
    let few = pow_mono {i = 8 * length (part at k bs)} {j = 8 * k} (omega (arith, length-take k (drop at bs))) in
    omega (arith, joined_lt 8 (part at k bs))

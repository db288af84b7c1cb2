-- What one bucket changed does to the columns: which buckets are seen after it, and that no column grows or shrinks. Assumes nothing.
use mathlib.Core.Path.{◌≡◌}
use mathlib.Core.Bool.{true, and-eq-true_iff}
use mathlib.Core.Logic.{◌≢◌}
use Prim.Native.Nat.{ℕ, ◌<◌}
use borrow.Author.Tests.{ltb-true}
use lib.Dec.{ltb}
use lib.IntN.{ℤ, pos}
use lib.ListN.{length, get_or, length-set}
use lib.Seq.{get_or-set_same, get_or-set_other}
use Rattle.bucket.specs.Bucket.{Bucket}
use Rattle.bucket.specs.Columns.{Columns, view, place, is_small, is_open}
use Rattle.bucket.proofs.BucketLaws.{bucket-same}

-- where a bucket is open

is_open_parts : (c : Columns) (i : ℕ) (d : ℤ) → is_open c i d ≡ true
    → (ltb i (length c.idsums) ≡ true) × (ltb i (length c.hashsums) ≡ true) × (ltb i (length c.counts) ≡ true)
    × (is_small (get_or c.counts i (pos 0)) ≡ true) × (is_small d ≡ true)
unfolding is_open
is_open_parts c i d e =
    let p = (and-eq-true_iff (ltb i (length c.idsums)) _).0 e in
    let q = (and-eq-true_iff (ltb i (length c.hashsums)) _).0 p.1 in
    let r = (and-eq-true_iff (ltb i (length c.counts)) _).0 q.1 in
    let s = (and-eq-true_iff (is_small (get_or c.counts i (pos 0))) _).0 r.1 in
    (p.0, q.0, r.0, s.0, s.1)

pub is_open_inside : (c : Columns) (i : ℕ) (d : ℤ) → is_open c i d ≡ true
    → (i < length c.idsums) × (i < length c.hashsums) × (i < length c.counts)
is_open_inside c i d e = let p = is_open_parts c i d e in (ltb-true _ _ p.0, ltb-true _ _ p.1, ltb-true _ _ p.2)

pub is_open_small : (c : Columns) (i : ℕ) (d : ℤ) → is_open c i d ≡ true → (is_small (get_or c.counts i (pos 0)) ≡ true) × (is_small d ≡ true)
is_open_small c i d e = let p = is_open_parts c i d e in (p.3, p.4)

-- one bucket replaced

pub place_same : (c : Columns) (i : ℕ) (b : Bucket) → i < length c.idsums → i < length c.hashsums → i < length c.counts
    → view (place c i b) i ≡ b
unfolding view place
place_same c i b p q r =
    bucket-same (get_or-set_same c.idsums i b.idsum 0 p) (get_or-set_same c.hashsums i b.hashsum 0 q)
    (get_or-set_same c.counts i b.count (pos 0) r)

pub place_other : (c : Columns) (i j : ℕ) (b : Bucket) → j ≢ i → view (place c i b) j ≡ view c j
unfolding view place
place_other c i j b h =
    bucket-same (get_or-set_other c.idsums i j b.idsum 0 h) (get_or-set_other c.hashsums i j b.hashsum 0 h)
    (get_or-set_other c.counts i j b.count (pos 0) h)

abbrev pub SameLengths : Columns → Columns → Type 0
SameLengths a b =
    (length a.idsums ≡ length b.idsums) × (length a.hashsums ≡ length b.hashsums) × (length a.counts ≡ length b.counts)

pub place-lengths : (c : Columns) (i : ℕ) (b : Bucket) → SameLengths (place c i b) c
unfolding place
place-lengths c i b =
    (length-set c.idsums i b.idsum, length-set c.hashsums i b.hashsum, length-set c.counts i b.count)

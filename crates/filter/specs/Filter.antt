-- A filter (document 01, "Slips, IDs and places" and "Made by the rules"), over a rule, as a function from bucket numbers to buckets.
--
--   Item                   an ID with its side: ours or theirs
--   Rule                   the number of buckets, salting and back, the places and the check sum of a salted ID
--   rule k size salt       document 01's, with k places an element; filter_rule takes placeCount's
--   cell R x               what one item adds to a bucket: its salted ID, the check sum, and 1 or −1
--   touches R x i          item x lies in bucket i
--   sum_at R l i            bucket i of the filter of a list of items
--   load R l i             how many items of the list lie in bucket i
--   filter_of R t           "Made by the rules, from a set of IDs"
--   difference R t g       "Difference = ours minus received"
--
-- Laws (proofs/SumLaws): sum-append, sum_sides, sum_cross.
-- Assumes nothing.
use Rattle.std.specs.Prelude.{Bool, cond, List, [], ◌∷◌, map, ℕ, ◌+◌, pos, negsuc}
use Rattle.bucket.specs.Bucket.{Bucket, bucket, ◌⊕◌, ◌⊖◌, 𝟎}
use Rattle.bucket.specs.Crc.{crc_of}
use Rattle.bucket.specs.Lists.{elem}
use Rattle.bucket.specs.Places.{places, place_count}
use Rattle.bucket.specs.Salt.{salted, unsalted}

pub data Item : Type 0 where
  ours : ℕ → Item
  theirs : ℕ → Item

abbrev pub id_of : Item → ℕ
id_of (ours a) = a
id_of (theirs a) = a

abbrev pub ids : List Item → List ℕ
ids l = map id_of l

-- the IDs of each side
unfoldable pub ours_of : List Item → List ℕ
ours_of [] = []
ours_of (ours a ∷ l) = a ∷ ours_of l
ours_of (theirs a ∷ l) = ours_of l

unfoldable pub theirs_of : List Item → List ℕ
theirs_of [] = []
theirs_of (ours a ∷ l) = theirs_of l
theirs_of (theirs a ∷ l) = a ∷ theirs_of l

-- a code is the salted form of an ID
pub record Rule : Type 0 where
  pub size : ℕ
  pub code : ℕ → ℕ
  pub decode : ℕ → ℕ
  pub places : ℕ → List ℕ
  pub check : ℕ → ℕ

abbrev pub rule : ℕ → ℕ → ℕ → Rule
rule k size salt = record { size = size; code = salted salt; decode = unsalted salt; places = λ w. places k size (crc_of w); check = crc_of }

abbrev pub filter_rule : ℕ → ℕ → Rule
filter_rule size salt = rule (place_count size) size salt

module _ (R : Rule) where
  unfoldable pub touches : Item → ℕ → Bool
  touches x i = elem i (R.places (R.code (id_of x)))

  unfoldable pub cell : Item → Bucket
  cell (ours a) = bucket (R.code a) (R.check (R.code a)) (pos 1)
  cell (theirs a) = bucket (R.code a) (R.check (R.code a)) (negsuc 0)

  unfoldable pub put : Item → ℕ → Bucket
  put x i = cond (touches x i) (cell x) 𝟎

  unfoldable pub sum_at : List Item → ℕ → Bucket
  sum_at [] i = 𝟎
  sum_at (x ∷ l) i = put x i ⊕ sum_at l i

  unfoldable pub load : List Item → ℕ → ℕ
  load [] i = 0
  load (x ∷ l) i = cond (touches x i) 1 0 + load l i

  -- "a bucket's sums are over those placed there, its COUNT is their number"
  unfoldable pub filter_of : List ℕ → ℕ → Bucket
  filter_of t i = sum_at (map ours t) i

  unfoldable pub difference : List ℕ → (ℕ → Bucket) → ℕ → Bucket
  difference t g i = filter_of t i ⊖ g i

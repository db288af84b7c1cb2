-- An element taken out of one bucket, and one bucket after another out of all its own, with the set of buckets that look pure.
-- Assumes nothing.
use mathlib.Core.Path.{◌≡◌}
use mathlib.Core.Bool.{Bool, true}
use mathlib.Core.List.{List}
use Prim.Native.Nat.{ℕ, ◌+◌, ◌^◌, ◌≤◌, ◌<◌, min}
use native.Mathlib.Omega.{arith}
use lib.IntN.{ℤ, nat_abs}
use lib.ListN.{get_or}
use Rattle.bucket.specs.Bucket.{Bucket, bucket, ◌⊕◌, neg}
use Rattle.bucket.specs.Columns.{Columns, view, place, is_open}
use Rattle.bucket.specs.Crc.{crc_tables, next_by}
use Rattle.bucket.specs.Lists.{pad}
use Rattle.bucket.specs.Places.{crc_next, places, places_by}
use Rattle.bucket.proofs.PlaceLaws as PlaceLaws
use Rattle.filter.specs.Calls.{filled}
use Rattle.filter.specs.Filter.{rule}
use Rattle.filter.specs.Marks.{marks}
use Rattle.filter.specs.Steps.{Wide, Small, Sound, spread, shows}
use Rattle.filter.proofs.FilledLaws.{wide-same}
use Rattle.filter.proofs.NegatedLaws.{abs_neg as abs-negℤ}
use Rattle.filter.proofs.SpreadLaws.{abs_small, small-more, open_of, places-given, Added, added_start, added_next, added_end}

-- ---- one bucket

pub abs_neg : (b : Bucket) → nat_abs (neg b).count ≡ nat_abs b.count
unfolding neg
abs_neg b = abs-negℤ b.count

-- a bucket below the size is open to what it loses
pub taking_open : (c : Columns) (n i : ℕ) (b : Bucket) → Wide n c → Small n (2 ^ 61) c → i < n → nat_abs b.count ≤ 1 → is_open c i (neg b).count ≡ true
taking_open c n i b w s h one = open_of n (2 ^ 61) c i (neg b).count w s (omega arith) h (abs_small (neg b).count (omega (arith, one, abs_neg b)))

-- ---- all its buckets

-- the first j places done
pub record Taking (k size x h : ℕ) (s : ℤ) (c₀ c : Columns) (m : List Bool) (j : ℕ) : Type 0 where
  pub taken : Added k size h (neg (bucket x h s)) c₀ c j
  pub shown : m ≡ marks (shows (rule k size 0) (view c))

module _ (k size x h : ℕ) (s : ℤ) (c₀ : Columns) where
  pub taking_start : {m : List Bool} → Small size (2 ^ 60) c₀ → m ≡ marks (shows (rule k size 0) (view c₀)) → Taking k size x h s c₀ c₀ m 0
  taking_start a m = record { taken = added_start k size h (neg (bucket x h s)) c₀ a; shown = m }

  module _ (c : Columns) {m : List Bool} {j : ℕ} (sound : Sound size k 0) (w : Wide size c₀) (g : Taking k size x h s c₀ c m j) where
    pub taking_wide : Wide size c
    taking_wide = wide-same size c c₀ g.taken.lengths w

    pub taking_small : Small size (2 ^ 61) c
    taking_small = small-more size (2 ^ 60 + j) (2 ^ 61) c (omega (arith, g.taken.within, sound.few)) g.taken.small

    module _ (tab r : List ℕ) (right : tab ≡ crc_tables) (e : r ≡ pad 4 (places_by (next_by tab) (min 4 k) size h)) where
      found : r ≡ pad 4 (places k size h)
      found = places-given k size h tab r right sound.few e

      pub taking_below : j < k → get_or r j 0 < size
      taking_below l = (PlaceLaws.place crc_next k size h 4 r j found (omega (arith, l, sound.least, sound.few))).below

      pub taking_next : {m' : List Bool} {c' : Columns} → j < k → nat_abs s ≤ 1
          → c' ≡ place c (get_or r j 0) (view c (get_or r j 0) ⊕ neg (bucket x h s)) → m' ≡ marks (shows (rule k size 0) (view c'))
          → Taking k size x h s c₀ c' m' (j + 1)
      taking_next {m'} {c'} l one q m = record {
        taken = added_next k size h (neg (bucket x h s)) c₀ c j sound w g.taken r (omega (arith, one, abs_neg (bucket x h s))) found l c' q;
        shown = m;
      }

    pub taking_end : k ≤ j → c ≡ filled size (spread (places k size h) (neg (bucket x h s)) (view c₀)) c₀
    taking_end = added_end k size h (neg (bucket x h s)) c₀ c j sound w g.taken

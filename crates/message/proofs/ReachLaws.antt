-- The items of a message along the ways of the code: when the bytes hold item i of those from a position on, and what the definitions of specs/Items are then, and are else.
-- Assumes nothing.
use mathlib.Core.Path.{◌≡◌, ap}
use mathlib.Core.Bool.{Bool, true, false, cond}
use mathlib.Core.List.{List, []}
use Prim.Native.Nat.{ℕ, suc, ◌+◌, ◌*◌, ◌/◌, ◌≤◌, ◌<◌}
use native.Mathlib.Nat.{mul_comm, suc-mul, div-lt_iff_lt-mul, le-div_iff_mul-le}
use native.Mathlib.Omega.{arith}
use borrow.Author.Tests.{le-leb, lt-leb}
use lib.Dec.{leb}
use lib.ListN.{length, drop}
use lib.Seq.{take-take, take-nil}
use Rattle.bucket.specs.Digits.{joined}
use Rattle.bucket.specs.Lists.{part}
use Rattle.bucket.proofs.TestLaws.{cond-kept, cond-made}
use Rattle.message.specs.Items.{number_at, hash_part}
use Rattle.message.specs.Putting.{item_in}
use Rattle.message.specs.Reading.{field}

-- m bytes hold item i of those of k bytes each exactly when i is below their number
module _ {m k i : ℕ} (some : 1 ≤ k) where
  pub items_past : m / k ≤ i → m < k * i + k
  items_past h =
      let l = (div-lt_iff_lt-mul {k = k} {x = m} {y = suc i} some).0 (omega arith) in
      omega (arith, rw (suc-mul, mul_comm) at l)

  pub items_within : i < m / k → k * i + k ≤ m
  items_within h =
      let l = (le-div_iff_mul-le {k = k} {x = suc i} {y = m} some).0 h in
      omega (arith, rw (suc-mul, mul_comm) at l)

module _ (k from : ℕ) (bs : List ℕ) (i : ℕ) where
  pub number_past : length bs < from + k * i + k → 0 ≡ number_at k from bs i
  unfolding number_at
  number_past h = cond-kept (field k (from + k * i) bs) 0 (lt-leb (from + k * i + k) (length bs) h)

  pub number-within : from + k * i + k ≤ length bs → field k (from + k * i) bs ≡ number_at k from bs i
  unfolding number_at
  number-within h = cond-made (field k (from + k * i) bs) 0 (le-leb (from + k * i + k) (length bs) h)

  -- its bytes, and the number in them
  pub item-past : length bs < from + k * i + k → [] ≡ item_in k from bs i
  unfolding item_in
  item-past h = cond-kept (part (from + k * i) k bs) [] (lt-leb (from + k * i + k) (length bs) h)

  pub item-within : from + k * i + k ≤ length bs → part (from + k * i) k bs ≡ item_in k from bs i
  unfolding item_in
  item-within h = cond-made (part (from + k * i) k bs) [] (le-leb (from + k * i + k) (length bs) h)

  pub item-number : field k 0 (item_in k from bs i) ≡ number_at k from bs i
  unfolding number_at item_in joined
  item-number = go (leb (from + k * i + k) (length bs))
    where
      go : (t : Bool) → field k 0 (cond t (part (from + k * i) k bs) []) ≡ cond t (field k (from + k * i) bs) 0
      go true = ap (joined 8) (take-take k k (drop (from + k * i) bs) (omega arith))
      go false = ap (joined 8) (take-nil k)

module _ (bs : List ℕ) (i : ℕ) where
  pub hash-past : length bs < 4 + 64 * i + 64 → [] ≡ hash_part bs i
  unfolding hash_part
  hash-past h = cond-kept (part (4 + 64 * i) 64 bs) [] (lt-leb (4 + 64 * i + 64) (length bs) h)

  pub hash-within : 4 + 64 * i + 64 ≤ length bs → part (4 + 64 * i) 64 bs ≡ hash_part bs i
  unfolding hash_part
  hash-within h = cond-made (part (4 + 64 * i) 64 bs) [] (le-leb (4 + 64 * i + 64) (length bs) h)

-- The IDs of a table are distinct and below 2^64, and the rule of document 01 reads them back from their salted forms
-- and gives each a bucket. Assumes nothing.
use mathlib.Core.Path.{◌≡◌}
use mathlib.Core.Logic.{◌⊎◌, inl, inr}
use mathlib.Core.Bool.{true, and-eq-true_iff}
use mathlib.Core.List.{List, map, Memᴰ}
use mathlib.Core.List.Memᴰ.{head}
use mathlib.Core.List.Memᴰ.{tail}
use Prim.Native.Nat.{ℕ, zero, suc, ◌*◌, ◌/◌, ◌%◌, ◌^◌, ◌≤◌, ◌<◌}
use native.Mathlib.Nat.{div-lt_iff_lt-mul}
use native.Mathlib.Omega.{arith}
use borrow.Author.Tests.{leb-true}
use lib.Dec.{eqb, leb}
use lib.ListN.{length, get_or}
use lib.Pow.{pow_pos}
use Rattle.bucket.specs.Crc.{crc_of, tabulated}
use Rattle.bucket.specs.Lists.{Distinct}
use Rattle.bucket.specs.Places.{crc_next, places_by}
use Rattle.bucket.specs.Salt.{salted, unsalted}
use Rattle.bucket.proofs.ListLaws.{elem_at}
use Rattle.bucket.proofs.PlaceLaws.{places-below, places-length}
use Rattle.bucket.proofs.SaltLaws.{unsalted-salted}
use Rattle.filter.specs.Lists.{ascending}
use Rattle.filter.specs.Filter.{Item, id_of, rule}
use Rattle.filter.specs.Stopping.{differing, Clear}
use Rattle.filter.specs.Table.{hash_at, hashes_of, first_eight, ids_of, is_table}
use Rattle.filter.proofs.OrderLaws.{distinct_true}
use Rattle.filter.proofs.TableLaws.{part-short, ids-length}
use Rattle.filter.proofs.SideLaws.{differing-from}
use Rattle.filter.proofs.LeftLaws.{Fair}
use Rattle.filter.proofs.ExactLaws.{Placed}

-- ---- tables

pub ids-distinct : (derive : ℕ → ℕ) (t : List ℕ) → is_table derive t ≡ true → Distinct (ids_of derive t)
unfolding is_table
ids-distinct derive t e =
    let whole = (and-eq-true_iff (eqb (length t % 64) 0) _).0 e in
    let few = (and-eq-true_iff (leb (length t / 64) 4096) _).0 whole.1 in
    let order = (and-eq-true_iff (ascending (hashes_of t)) _).0 few.1 in
    distinct_true (ids_of derive t) order.1

pub ids-few : (derive : ℕ → ℕ) (t : List ℕ) → is_table derive t ≡ true → length (ids_of derive t) ≤ 4096
unfolding is_table
ids-few derive t e =
    let whole = (and-eq-true_iff (eqb (length t % 64) 0) _).0 e in
    let few = (and-eq-true_iff (leb (length t / 64) 4096) _).0 whole.1 in
    omega (arith, ids-length derive t, leb-true (length t / 64) 4096 few.0)

hash-below : (t : List ℕ) (i : ℕ) → hash_at t i < 2 ^ 512
unfolding hash_at
hash-below t i = part-short (64 * i) 64 t

-- document 01's derivation keeps to 64 bits
pub first_eight_below : (h : ℕ) → h < 2 ^ 512 → first_eight h < 2 ^ 64
unfolding first_eight
first_eight_below h l = (div-lt_iff_lt-mul (pow_pos 448)).1 l

module _ (derive : ℕ → ℕ) (bound : (h : ℕ) → h < 2 ^ 512 → derive h < 2 ^ 64) where
  derived_below : (t : List ℕ) (a i n : ℕ) → Memᴰ a (map derive (tabulated (hash_at t) i n)) → a < 2 ^ 64
  unfolding tabulated
  derived_below t a i zero m = elim m [ ]
  derived_below t a i (suc n) (head e) = rw e (bound (hash_at t i) (hash-below t i))
  derived_below t a i (suc n) (tail m) = derived_below t a (suc i) n m

  pub ids-below : (t : List ℕ) (a : ℕ) → Memᴰ a (ids_of derive t) → a < 2 ^ 64
  unfolding ids_of hashes_of
  ids-below t a m = derived_below t a 0 (length t / 64) m

-- ---- the rule of document 01

-- a true difference of IDs is read back
pub fair : (k size salt : ℕ) (t s : List ℕ) → ((a : ℕ) → Memᴰ a t → a < 2 ^ 64) → ((a : ℕ) → Memᴰ a s → a < 2 ^ 64)
    → Clear (rule k size salt) (differing t s) → Fair (rule k size salt) (differing t s)
fair k size salt t s small-t small-s clear = record { codes = codes; clear = clear }
  where
    below : (x : Item) → Memᴰ (id_of x) t ⊎ Memᴰ (id_of x) s → id_of x < 2 ^ 64
    below x (inl m) = small-t (id_of x) m
    below x (inr m) = small-s (id_of x) m

    codes : (x : Item) → Memᴰ x (differing t s) → unsalted salt (salted salt (id_of x)) ≡ id_of x
    codes x m = unsalted-salted salt (id_of x) (below x (differing-from t s x m))

pub placed : (k size salt : ℕ) → 1 ≤ k → 1 ≤ size → Placed (rule k size salt)
placed k size salt some h = record {
  inside = λ w i e. places-below crc_next k size (crc_of w) i e;
  place = λ w. get_or (places_by crc_next k size (crc_of w)) 0 0;
  at_place = λ w. elem_at (places_by crc_next k size (crc_of w)) 0 (omega (arith, places-length crc_next k size (crc_of w)));
}

-- The hashes and IDs of bytes: how many, how large, in which order, and that a search in a table finds exactly what stands in it. Assumes nothing.
use mathlib.Core.Path.{◌≡◌, sym, ap, ap₂, subst, ◌∙◌}
use mathlib.Core.Bool.{Bool, true, false, ◌&&◌, and-eq-true_iff}
use mathlib.Core.List.{List}
use Prim.Native.Nat.{ℕ, ◌+◌, ◌*◌, ◌/◌, ◌%◌, ◌^◌, ◌≤◌, ◌<◌}
use native.Mathlib.Nat.{lt_of_lt_of_le, zero-add, mul_comm}
use native.Mathlib.Omega.{arith}
use lib.Dec.{eqb, leb}
use lib.ListN.{length, get_or, drop, length-map, length-take, length-drop, get_or-eq_default}
use lib.Pow.{high, shr_mono, pow_mono}
use lib.Seq.{take-add}
use borrow.Author.Tests.{eqb-true, leb-true, eq-eqb, ne_eqb, le-leb, lt-leb}
use Rattle.bucket.specs.Digits.{joined}
use Rattle.bucket.specs.Lists.{part, elem}
use Rattle.bucket.proofs.DigitLaws.{joined_lt, joined-append}
use Rattle.bucket.proofs.OverLaws.{part_length}
use Rattle.bucket.proofs.TableLaws.{tabulated-length, tabulated-at}
use Rattle.bucket.proofs.TestLaws.{and_fails}
use Rattle.filter.specs.Lists.{ascending}
use Rattle.filter.specs.Table.{hash_at, hashes_of, first_eight, ids_of, is_table, holds}
use Rattle.filter.proofs.OrderLaws.{map_at, numbers_ascend, ascending_values}
use Rattle.filter.proofs.BisectLaws.{held}

-- ---- how many

pub hashes-length : (t : List ℕ) → length (hashes_of t) ≡ length t / 64
unfolding hashes_of
hashes-length t = tabulated-length (hash_at t) 0 (length t / 64)

pub ids-length : (derive : ℕ → ℕ) (t : List ℕ) → length (ids_of derive t) ≡ length t / 64
unfolding ids_of
ids-length derive t = length-map (hashes_of t) derive ∙ hashes-length t

-- ---- by index

pub hash_at_lem : (t : List ℕ) (i : ℕ) → i < length t / 64 → get_or (hashes_of t) i 0 ≡ joined 8 (part (64 * i) 64 t)
unfolding hashes_of hash_at
hash_at_lem t i h = tabulated-at (hash_at t) 0 (length t / 64) i h ∙ ap (hash_at t) (zero-add i)

pub hash-bytes : (t : List ℕ) (i : ℕ) → i < length t / 64 → get_or (hashes_of t) i 0 ≡ joined 8 (part (i * 64) 64 t)
hash-bytes t i h = hash_at_lem t i h ∙ ap (λ (n : ℕ). joined 8 (part n 64 t)) (mul_comm 64 i)

pub hash-past : (t : List ℕ) (i : ℕ) → length t / 64 ≤ i → get_or (hashes_of t) i 0 ≡ 0
hash-past t i h = get_or-eq_default (hashes_of t) 0 (rw (hashes-length t) h)

-- the ID is what the first eight of the 64 bytes make
pub first_eight_part : (at : ℕ) (t : List ℕ) → at + 64 ≤ length t → first_eight (joined 8 (part at 64 t)) ≡ joined 8 (part at 8 t)
unfolding first_eight
first_eight_part at t h =
    ap (λ (l : List ℕ). joined 8 l / 2 ^ (8 * 56)) (take-add 8 56 (drop at t))
    ∙ ap (λ (x : ℕ). x / 2 ^ (8 * 56)) (joined-append 8 (part at 8 t) rest ∙ ap (λ (n : ℕ). joined 8 (part at 8 t) * 2 ^ (8 * n) + joined 8 rest) long)
    ∙ high (joined 8 (part at 8 t)) (8 * 56) (subst (λ (n : ℕ). joined 8 rest < 2 ^ (8 * n)) long (joined_lt 8 rest))
  where
    rest : List ℕ
    rest = part 8 56 (drop at t)

    long : length rest ≡ 56
    long = part_length 8 (drop at t) 56 (omega (arith, length-drop at t))

pub hash-id : (t : List ℕ) (i : ℕ) → i < length t / 64 → first_eight (hash_at t i) ≡ joined 8 (part (64 * i) 8 t)
unfolding hash_at
hash-id t i h = first_eight_part (64 * i) t (omega arith)

pub id-at : (t : List ℕ) (i : ℕ) → i < length t / 64 → get_or (ids_of first_eight t) i 0 ≡ joined 8 (part (64 * i) 8 t)
unfolding ids_of
id-at t i h =
    map_at first_eight (hashes_of t) i (rw (hashes-length t) h) ∙ ap first_eight (hash_at_lem t i h) ∙ first_eight_part (64 * i) t (omega arith)

pub id-past : (derive : ℕ → ℕ) (t : List ℕ) (i : ℕ) → length t / 64 ≤ i → get_or (ids_of derive t) i 0 ≡ 0
id-past derive t i h = get_or-eq_default (ids_of derive t) 0 (rw (ids-length derive t) h)

-- ---- how large

pub part-short : (at k : ℕ) (t : List ℕ) → joined 8 (part at k t) < 2 ^ (8 * k)
part-short at k t =
    lt_of_lt_of_le (joined_lt 8 (part at k t)) (pow_mono {i = 8 * length (part at k t)} {j = 8 * k} (omega (arith, length-take k (drop at t))))

-- ---- order

-- larger hashes have no smaller IDs, so ascending IDs say that hashes ascend and that IDs are distinct
pub table-ids : (t : List ℕ) → is_table first_eight t ≡ eqb (length t % 64) 0 && (leb (length t / 64) 4096 && ascending (ids_of first_eight t))
unfolding is_table ids_of first_eight
table-ids t =
    ap (λ (u : Bool). eqb (length t % 64) 0 && (leb (length t / 64) 4096 && u))
    (ascending_values first_eight (λ a b h. shr_mono (8 * 56) h) (hashes_of t))

module _ (t : List ℕ) (ok : is_table first_eight t ≡ true) where
  -- what the tests of the form say
  tests : (length t % 64 ≡ 0) × (length t / 64 ≤ 4096) × (ascending (ids_of first_eight t) ≡ true)
  tests =
      let one = (and-eq-true_iff (eqb (length t % 64) 0) (leb (length t / 64) 4096 && ascending (ids_of first_eight t))).0 (sym (table-ids t) ∙ ok) in
      let two = (and-eq-true_iff (leb (length t / 64) 4096) (ascending (ids_of first_eight t))).0 one.1 in
      (eqb-true (length t % 64) 0 one.0, leb-true (length t / 64) 4096 two.0, two.1)

  pub table-whole : length t % 64 ≡ 0
  table-whole = tests.0

  pub table-count : length t / 64 ≤ 4096
  table-count = tests.1

  pub ids-ascending : ascending (ids_of first_eight t) ≡ true
  ids-ascending = tests.2

  pub hashes-ascending : ascending (hashes_of t) ≡ true
  unfolding ids_of first_eight
  hashes-ascending = numbers_ascend first_eight (λ a b h. shr_mono (8 * 56) h) (hashes_of t) ids-ascending

  pub held-id : (a : ℕ) → holds (ids_of first_eight t) a ≡ elem a (ids_of first_eight t)
  held-id a = held (ids_of first_eight t) a ids-ascending

  pub held-hash : (h : ℕ) → holds (hashes_of t) h ≡ elem h (hashes_of t)
  held-hash h = held (hashes_of t) h hashes-ascending

-- ---- the form, test by test

module _ (t : List ℕ) where
  pub table_torn : (length t % 64 ≡ 0 → ⊥) → false ≡ is_table first_eight t
  table_torn h =
      sym (table-ids t ∙ ap (λ (u : Bool). u && (leb (length t / 64) 4096 && ascending (ids_of first_eight t))) (ne_eqb (length t % 64) 0 h))

  pub table_large : 4096 < length t / 64 → false ≡ is_table first_eight t
  table_large h =
      sym (table-ids t ∙ and_fails (eqb (length t % 64) 0) (ap (λ (u : Bool). u && ascending (ids_of first_eight t)) (lt-leb (length t / 64) 4096 h)))

  pub table_by_ids : length t % 64 ≡ 0 → length t / 64 ≤ 4096 → ascending (ids_of first_eight t) ≡ is_table first_eight t
  table_by_ids e h =
      sym (table-ids t ∙ ap₂ (λ (u v : Bool). u && (v && ascending (ids_of first_eight t))) (eq-eqb (length t % 64) 0 e) (le-leb (length t / 64) 4096 h))

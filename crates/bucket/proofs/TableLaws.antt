-- The eight tables: what their entries are, and that a CRC and a draw by them are the CRC. Assumes nothing.
use mathlib.Core.Path.{◌≡◌, refl, sym, ap, ap₂, ◌∙◌}
use mathlib.Core.Bool.{true}
use mathlib.Core.List.{List, ◌∷◌, ◌++◌}
use Prim.Native.Nat.{ℕ, zero, suc, ◌+◌, ◌-◌, ◌*◌, ◌/◌, ◌%◌, ◌^◌, ◌≤◌, ◌<◌}
use native.Mathlib.Nat.{mod-lt, zero-lt-suc, le_of_suc-le-suc}
use native.Mathlib.Numerals.{add-one}
use native.Mathlib.Omega.{arith}
use lib.Bits.{bit_xor, xor_zero_r}
use lib.ListN.{length, get_or, drop, set, length-set}
use lib.Pow.{high, low}
use lib.Seq.{drop-cons, ext_get_or, get_or-set_same, get_or-set_other}
use Rattle.bucket.specs.Digits.{groups}
use Rattle.bucket.specs.Lists.{elem, Distinct}
use Rattle.bucket.specs.Crc.{steps, feed, crc_of, entry, tabulated, crc_tables, looked_up, crc_of_zero, crc_by, next_by}
use Rattle.bucket.specs.Places.{crc_next}
use Rattle.bucket.proofs.ListLaws.{elem_at, at_index, distinct_of, distinct-count}
use Rattle.bucket.proofs.DigitLaws.{groups-length, groups-append, groups-mod}
use borrow.Author.Count.{below_more}
use Rattle.bucket.proofs.XorLaws.{xor_assoc}
use Rattle.bucket.proofs.CrcLaws.{steps_xor, steps_zero, steps-add, feed-start, feed-append, crc_split}

-- ---- a table by a rule

pub tabulated-length : (f : ℕ → ℕ) (i n : ℕ) → length (tabulated f i n) ≡ n
unfolding tabulated
tabulated-length f i zero = refl
tabulated-length f i (suc n) = ap suc (tabulated-length f (suc i) n)

pub tabulated-at : (f : ℕ → ℕ) (i n j : ℕ) → j < n → get_or (tabulated f i n) j 0 ≡ f (i + j)
unfolding tabulated
tabulated-at f i zero j h = absurd (omega arith)
tabulated-at f i (suc n) zero h = ap f (omega arith)
tabulated-at f i (suc n) (suc j) h = tabulated-at f (suc i) n j (le_of_suc-le-suc h) ∙ ap f (omega arith)

-- those from the i-th on
pub tabulated-rest : (f : ℕ → ℕ) (n i : ℕ) → i < n → drop i (tabulated f 0 n) ≡ f i ∷ drop (i + 1) (tabulated f 0 n)
tabulated-rest f n i h =
    drop-cons (tabulated f 0 n) i 0 (omega (arith, tabulated-length f 0 n))
    ∙ ap₂ (λ (v m : ℕ). v ∷ drop m (tabulated f 0 n)) (tabulated-at f 0 n i h ∙ ap f (omega arith)) (sym (add-one i))

-- ---- the numbers below n

abbrev pub numbers : ℕ → List ℕ
numbers n = tabulated (λ c. c) 0 n

pub numbers-at : (n i : ℕ) → i < n → get_or (numbers n) i 0 ≡ i
numbers-at n i h = tabulated-at (λ c. c) 0 n i h ∙ omega arith

pub numbers-elem : (n a : ℕ) → a < n → elem a (numbers n) ≡ true
numbers-elem n a h =
    ap (λ (v : ℕ). elem v (numbers n)) (sym (numbers-at n a h)) ∙ elem_at (numbers n) a (omega (arith, tabulated-length (λ c. c) 0 n))

numbers-below : (n a : ℕ) → elem a (numbers n) ≡ true → a < n
numbers-below n a e =
    let r = at_index a (numbers n) e in
    let l : r.0 < n = omega (arith, r.1, tabulated-length (λ c. c) 0 n) in
    omega (arith, r.2, numbers-at n r.0 l)

numbers-distinct : (n : ℕ) → Distinct (numbers n)
numbers-distinct n =
    distinct_of (numbers n) (λ i j p q e.
    let l : j < n = omega (arith, tabulated-length (λ c. c) 0 n) in
    omega (arith, e, numbers-at n i (omega arith), numbers-at n j l))

-- distinct numbers below n are at most n
pub distinct-below : (n : ℕ) (l : List ℕ) → Distinct l → ((a : ℕ) → elem a l ≡ true → a < n) → length l ≤ n
distinct-below n l d h =
    omega (arith, tabulated-length (λ c. c) 0 n, distinct-count l (numbers n) d (λ a e. numbers-elem n a (h a e)))

-- where every number below n stands, there are at least n
pub covered_below : (n : ℕ) (l : List ℕ) → ((a : ℕ) → a < n → elem a l ≡ true) → n ≤ length l
covered_below n l h =
    omega (arith, tabulated-length (λ c. c) 0 n, distinct-count (numbers n) l (numbers-distinct n) (λ a e. h a (numbers-below n a e)))

-- ---- a table that is being filled

-- the first n entries of a list of m go by a rule
pub record Filled (f : ℕ → ℕ) (m n : ℕ) (t : List ℕ) : Type 0 where
  pub within : n ≤ m
  pub long : length t ≡ m
  pub each : (i : ℕ) → i < n → get_or t i 0 ≡ f i

pub filled-all : (f : ℕ → ℕ) (m : ℕ) (t : List ℕ) → Filled f m m t → t ≡ tabulated f 0 m
filled-all f m t g =
    ext_get_or 0 t (tabulated f 0 m) (g.long ∙ sym (tabulated-length f 0 m))
    (λ i h. let l : i < m = omega (arith, g.long) in g.each i l ∙ sym (tabulated-at f 0 m i l ∙ ap f (omega arith)))

pub filled_more : (f : ℕ → ℕ) (m n v : ℕ) (t : List ℕ) → Filled f m n t → n < m → v ≡ f n → Filled f m (n + 1) (set t n v)
filled_more f m n v t g h e = record {
  within = omega arith;
  long = length-set t n v ∙ g.long;
  each = below_more (λ (i : ℕ). get_or (set t n v) i 0 ≡ f i) n (λ i l. get_or-set_other t n i v 0 (λ q. omega arith) ∙ g.each i l)
      (get_or-set_same t n v 0 (omega (arith, g.long)) ∙ e);
}

-- ---- the entries

-- row 0
pub entry_first : (i : ℕ) → i < 256 → steps 8 i ≡ entry i
entry_first i h =
    let row : 0 ≡ i / 256 = omega arith in
    let col : i ≡ i % 256 = omega arith in
    ap₂ (λ (a b : ℕ). steps (8 * (a + 1)) b) row col

-- each row from the one before it
pub entry_next : (i : ℕ) → 256 ≤ i → steps 8 (entry (i - 256)) ≡ entry i
entry_next i h =
    let row : 8 * ((i - 256) / 256 + 1) + 8 ≡ 8 * (i / 256 + 1) = omega arith in
    let col : (i - 256) % 256 ≡ i % 256 = omega arith in
    sym (steps-add (8 * ((i - 256) / 256 + 1)) 8 ((i - 256) % 256)) ∙ ap₂ steps row col

pub tables_at : (i : ℕ) → i < 2048 → get_or crc_tables i 0 ≡ entry i
unfolding crc_tables
tables_at i h = tabulated-at entry 0 2048 i h ∙ ap entry (omega arith)

tables_row : (row b : ℕ) → row < 8 → b < 256 → get_or crc_tables (row * 256 + b) 0 ≡ steps (8 * (row + 1)) b
tables_row row b h l =
    let r : (row * 256 + b) / 256 ≡ row = omega arith in
    let c : (row * 256 + b) % 256 ≡ b = omega arith in
    tables_at (row * 256 + b) (omega arith) ∙ ap₂ (λ (q v : ℕ). steps (8 * (q + 1)) v) r c

-- ---- lookups

-- one more byte, and none
pub looked_up_more : (t : List ℕ) (row x k c : ℕ) → 0 < k
    → looked_up t row x k c ≡ looked_up t row x (k - 1) (bit_xor c (get_or t ((row + (k - 1)) * 256 + x / 2 ^ (8 * (k - 1)) % 256) 0))
unfolding looked_up
looked_up_more t row x k c h = ap (λ (m : ℕ). looked_up t row x m c) back
  where
    back : k ≡ suc (k - 1)
    back = omega arith

pub looked_up_none : (t : List ℕ) (row x k c : ℕ) → k ≡ 0 → looked_up t row x k c ≡ c
unfolding looked_up
looked_up_none t row x k c e = ap (λ (m : ℕ). looked_up t row x m c) e

-- bytes looked up from a row on are the bytes fed, with as many zero bytes behind them
looked_up_fed : (row x k c : ℕ) → row + k ≤ 8 → looked_up crc_tables row x k c ≡ bit_xor c (steps (8 * row) (feed 0 (groups 8 k x)))
unfolding looked_up feed groups
looked_up_fed row x zero c h = sym (ap (bit_xor c) (steps_zero (8 * row)) ∙ xor_zero_r c)
looked_up_fed row x (suc k) c h =
    looked_up_fed row x k (bit_xor c (get_or crc_tables ((row + k) * 256 + b) 0)) (omega arith)
    ∙ xor_assoc c (get_or crc_tables ((row + k) * 256 + b) 0) (steps (8 * row) (feed 0 (groups 8 k x)))
    ∙ ap (λ (v : ℕ). bit_xor c (bit_xor v (steps (8 * row) (feed 0 (groups 8 k x))))) found
    ∙ ap (bit_xor c) (sym (steps_xor (8 * row) (steps (8 * k) (steps 8 b)) (feed 0 (groups 8 k x))))
    ∙ ap (λ (v : ℕ). bit_xor c (steps (8 * row) v)) (sym (feed-start (steps 8 b) (groups 8 k x) ∙ ap (λ (n : ℕ). bit_xor (steps (8 * n) (steps 8 b)) (feed 0 (groups 8 k x))) (groups-length 8 k x)))
  where
    b : ℕ
    b = x / 2 ^ (8 * k) % 2 ^ 8

    found : get_or crc_tables ((row + k) * 256 + b) 0 ≡ steps (8 * row) (steps (8 * k) (steps 8 b))
    found =
        tables_row (row + k) b (omega arith) (mod-lt (x / 2 ^ (8 * k)) (zero-lt-suc 255))
        ∙ ap (λ (n : ℕ). steps n b) (omega arith)
        ∙ steps-add (8 + 8 * k) (8 * row) b
        ∙ ap (steps (8 * row)) (steps-add 8 (8 * k) b)

pub crc_by_tables : (x : ℕ) → crc_by crc_tables x ≡ crc_of x
unfolding crc_by steps
crc_by_tables x = looked_up_fed 0 x 8 crc_of_zero (omega arith) ∙ sym (crc_split x)

-- a zero byte at the start leaves nothing
fed_zero : (bs : List ℕ) → feed 0 (0 ∷ bs) ≡ feed 0 bs
unfolding feed steps
fed_zero bs = refl

-- the bytes of a number below 256: three zeros, and itself
small_bytes : (i : ℕ) → i < 256 → groups 8 4 i ≡ 0 ∷ 0 ∷ 0 ∷ groups 8 1 i
unfolding groups
small_bytes i h = λ k. third k ∷ second k ∷ first k ∷ groups 8 1 i
  where
    third : i / 2 ^ 24 % 2 ^ 8 ≡ 0
    third = omega arith

    second : i / 2 ^ 16 % 2 ^ 8 ≡ 0
    second = omega arith

    first : i / 2 ^ 8 % 2 ^ 8 ≡ 0
    first = omega arith

zeros_fed : (i : ℕ) → i < 256 → feed 0 (groups 8 4 i) ≡ steps 0 (feed 0 (groups 8 1 i))
unfolding steps
zeros_fed i h =
    ap (feed 0) (small_bytes i h) ∙ fed_zero (0 ∷ 0 ∷ groups 8 1 i) ∙ fed_zero (0 ∷ groups 8 1 i) ∙ fed_zero (groups 8 1 i)

-- the bytes of d × 2^32 + i: those of d, three zeros, and i
pub next_by_tables : (d i : ℕ) → i < 256 → next_by crc_tables d i ≡ crc_next d i
unfolding next_by
next_by_tables d i h =
    looked_up_fed 0 i 1 (looked_up crc_tables 4 d 4 crc_of_zero) (omega arith)
    ∙ ap (λ (v : ℕ). bit_xor v (steps 0 (feed 0 (groups 8 1 i)))) (looked_up_fed 4 d 4 crc_of_zero (omega arith))
    ∙ xor_assoc crc_of_zero (steps 32 (feed 0 (groups 8 4 d))) (steps 0 (feed 0 (groups 8 1 i)))
    ∙ ap (bit_xor crc_of_zero) (sym bytes)
    ∙ sym (crc_split (d * 2 ^ 32 + i))
  where
    x : ℕ
    x = d * 2 ^ 32 + i

    upper : groups 8 4 (x / 2 ^ 32) ≡ groups 8 4 d
    upper = ap (groups 8 4) (high d 32 (omega arith))

    lower : groups 8 4 x ≡ groups 8 4 i
    lower = sym (groups-mod 8 4 x 32 (omega arith)) ∙ ap (groups 8 4) (low d 32 (omega arith))

    bytes : feed 0 (groups 8 8 x) ≡ bit_xor (steps 32 (feed 0 (groups 8 4 d))) (steps 0 (feed 0 (groups 8 1 i)))
    bytes =
        ap (feed 0) (groups-append 8 4 4 x ∙ ap₂ (λ (p q : List ℕ). p ++ q) upper lower)
        ∙ feed-append 0 (groups 8 4 d) (groups 8 4 i)
        ∙ feed-start (feed 0 (groups 8 4 d)) (groups 8 4 i)
        ∙ ap₂ bit_xor (ap (λ (n : ℕ). steps (8 * n) (feed 0 (groups 8 4 d))) (groups-length 8 4 i)) (zeros_fed i h)

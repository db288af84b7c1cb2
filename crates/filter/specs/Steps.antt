-- What the parts of building and reading ask and leave. Cited by private functions alone.
--
--   Wide n c             each column has at least n places
--   Small n m c          the first n counts are below m either way
--   Sound size k salt    a size, a number of places and a salt that the parts take
--   Received, Ready      what a reading's parts take
--   layered top ..       the rule of strata of one size, numbered 0 to top: a filter has one, an estimator 32
--   spread ps b f        b added to the buckets of ps
--   negated n cs         the first n counts with their signs turned
--   every want t l       each number of l is in t, or none is
--   shows R f            the buckets below the size that look pure
--   Listed ..            two lists hold the IDs of items, in peel order
--   Peels ..             what a peeling leaves
--   counted r            how many IDs a stratum lists, if it is complete
--
-- Assumes nothing.
use Rattle.std.specs.Prelude.{◌≡◌, Bool, true, false, not, ◌&&◌, cond, List, [], ◌∷◌, map, reverse, ℕ, zero, suc, ◌+◌, ◌*◌, min, ◌≤◌, ◌<◌, ltb, ℤ, pos, neg_ℤ, nat_abs, length, get_or, set, Option, Some, None, is_some}
use Rattle.bucket.specs.Bucket.{Bucket, ◌⊕◌, 𝟎}
use Rattle.bucket.specs.Columns.{Columns}
use Rattle.bucket.specs.Counts.{stratum_of}
use Rattle.bucket.specs.Crc.{crc_of}
use Rattle.bucket.specs.Lists.{elem, over}
use Rattle.bucket.specs.Places.{places}
use Rattle.bucket.specs.Salt.{salted, unsalted}
use Rattle.filter.specs.declared.peeling.Lengths.{Lengths}
use Rattle.filter.specs.Table.{first_eight, is_table}
use Rattle.filter.specs.Filter.{Item, Rule, ours_of, theirs_of}
use Rattle.filter.specs.Peeling.{Outcome, is_pure, is_complete}
use Rattle.filter.specs.Calls.{in_range, are_counts, filled}
use Rattle.filter.specs.Estimator.{strata_verdict}

pub record Wide (n : ℕ) (c : Columns) : Type 0 where
  pub idsums : n ≤ length c.idsums
  pub hashsums : n ≤ length c.hashsums
  pub counts : n ≤ length c.counts

pub record Small (n m : ℕ) (c : Columns) : Type 0 where
  pub all : (i : ℕ) → i < n → nat_abs (get_or c.counts i (pos 0)) < m

pub record Sound (size k salt : ℕ) : Type 0 where
  pub least : 37 ≤ size
  pub most : size ≤ 4096
  pub some : 1 ≤ k
  pub few : k ≤ 4
  pub salt_in : salt < 64

-- what a reading's parts take: refusals 1, 3 and 2 did not stop it
pub record Received (size salt : ℕ) (t : List ℕ) (c : Columns) : Type 0 where
  pub table : is_table first_eight t ≡ true
  pub range : in_range size salt ≡ true
  pub counts : are_counts size c.counts ≡ true
  pub wide : Wide size c

pub record Ready (size salt : ℕ) (t : List ℕ) (c : Columns) (o th : List ℕ) : Type 0 where
  pub received : Received size salt t c
  pub ours-room : size ≤ length o
  pub theirs-room : size ≤ length th

abbrev pub layered : ℕ → ℕ → ℕ → ℕ → Rule
layered top k size salt = record {
  size = (top + 1) * size;
  code = salted salt;
  decode = unsalted salt;
  places = λ w. map (λ i. size * min top (stratum_of w) + i) (places k size (crc_of w));
  check = crc_of;
}

unfoldable pub spread : List ℕ → Bucket → (ℕ → Bucket) → ℕ → Bucket
spread ps b f i = f i ⊕ cond (elem i ps) b 𝟎

unfoldable pub negated : ℕ → List ℤ → List ℤ
negated zero cs = cs
negated (suc n) cs = set (negated n cs) n (neg_ℤ (get_or cs n (pos 0)))

abbrev pub agree : Bool → Bool → Bool
agree true b = b
agree false b = not b

unfoldable pub every : Bool → List ℕ → List ℕ → Bool
every want t [] = true
every want t (a ∷ l) = agree want (elem a t) && every want t l

abbrev pub shows : Rule → (ℕ → Bucket) → ℕ → Bool
shows R f i = ltb i R.size && is_pure R i (f i)

-- o₀ and t₀ are the lists before, a and b how many IDs each holds
pub record Listed (o₀ t₀ : List ℕ) (acc : List Item) (o t : List ℕ) (a b : ℕ) : Type 0 where
  pub ours : o ≡ over 0 (reverse (ours_of acc)) o₀
  pub theirs : t ≡ over 0 (reverse (theirs_of acc)) t₀
  pub ours-count : a ≡ length (ours_of acc)
  pub theirs-count : b ≡ length (theirs_of acc)

-- q is the definition's peeling, r what was listed if it was in order; c₀, o₀ and t₀ are the columns and lists before
pub record Peels (size : ℕ) (q : Outcome) (c₀ : Columns) (o₀ t₀ : List ℕ) (r : Option Lengths) (c : Columns) (o t : List ℕ) : Type 0 where
  pub fine_is : is_some r ≡ q.fine
  pub rest_is : is_some r ≡ true → c ≡ filled size q.rest c₀
  pub listed_is : (n : Lengths) → r ≡ Some n → Listed o₀ t₀ q.listed o t n.ours n.theirs
  pub listed_few : (n : Lengths) → r ≡ Some n → n.ours + n.theirs ≤ size
  -- in any case: only the first size places have changed
  pub some : List Item
  pub ours-some : ℕ
  pub theirs-some : ℕ
  pub listed-some : Listed o₀ t₀ some o t ours-some theirs-some
  pub few : length some ≤ size
  pub rest : ℕ → Bucket
  pub kept : c ≡ filled size rest c₀

-- r is the definition's reading of the stratum
abbrev pub counted : Outcome → Option ℕ
counted r = cond (is_complete (strata_verdict r)) (Some (length r.listed)) None

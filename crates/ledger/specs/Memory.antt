-- The ledger in lent memory: one memory for one ledger.
--
--   Memory            the hashes demanded, ascending, with a mark each; a mark for each element of the table; the IDs inquired, ascending
--   is_asked m ..      a mark's bits: 1 asked, 2 offered, 4 demanded by the far end, 8 met
--   marked p hs ms    the hashes whose mark passes
--   decode, encode    the ledger of a memory, and the memory of a ledger
--
-- Laws (proofs/MemoryLaws): decode-encode, encode-decode, encode_one.
-- Assumes nothing.
use Rattle.std.specs.Prelude.{Bool, cond, List, [], ◌∷◌, ◌++◌, map, ℕ, ◌+◌, ◌*◌, ◌/◌, ◌%◌, eqb, ltb}
use Rattle.bucket.specs.Lists.{elem}
use Rattle.filter.specs.Sets.{◌∪◌, all}
use Rattle.ledger.specs.Session.{Ledger, ids_of}

unfoldable pub is_asked : ℕ → Bool
is_asked m = eqb (m % 2) 1

unfoldable pub is_offered : ℕ → Bool
is_offered m = eqb (m / 2 % 2) 1

unfoldable pub is_served : ℕ → Bool
is_served m = eqb (m / 4 % 2) 1

unfoldable pub is_met : ℕ → Bool
is_met m = eqb (m / 8 % 2) 1

abbrev pub bit : Bool → ℕ
bit b = cond b 1 0

pub record Memory : Type 0 where
  pub records : List ℕ  -- hashes demanded
  pub flags : List ℕ  -- their marks
  pub marks : List ℕ  -- of the table's elements
  pub inquired : List ℕ

unfoldable pub marked : (ℕ → Bool) → List ℕ → List ℕ → List ℕ
marked p [] ms = []
marked p (h ∷ hs) [] = []
marked p (h ∷ hs) (m ∷ ms) = cond (p m) (h ∷ marked p hs ms) (marked p hs ms)

-- marks have no bit but theirs
unfoldable pub all_below : ℕ → List ℕ → Bool
all_below n ms = all (λ m. ltb m n) ms

module _ (derive : ℕ → ℕ) (table : List ℕ) where
  unfoldable pub decode : Memory → Bool → Ledger
  decode M went =
      record {
        inquired = M.inquired;
        asked = ids_of derive (marked is_asked table M.marks ++ marked is_asked M.records M.flags) ∪ [];
        offered = marked is_offered table M.marks ∪ marked is_offered M.records M.flags;
        served = marked is_served table M.marks ∪ marked is_served M.records M.flags;
        demanded = M.records;
        gained = marked is_met M.records M.flags;
        done_went = went;
      }

  unfoldable pub mark_of : Ledger → ℕ → ℕ
  mark_of L h = bit (elem (derive h) L.asked) + 2 * bit (elem h L.offered) + 4 * bit (elem h L.served)

  unfoldable pub flag_of : Ledger → ℕ → ℕ
  flag_of L h = mark_of L h + 8 * bit (elem h L.gained)

  abbrev pub marks_of : Ledger → List ℕ
  marks_of L = map (mark_of L) table

  abbrev pub flags_of : Ledger → List ℕ
  flags_of L = map (flag_of L) L.demanded

  unfoldable pub encode : Ledger → Memory
  encode L = record { records = L.demanded; flags = flags_of L; marks = marks_of L; inquired = L.inquired }

-- The ledger's form (document 01, "The session"), as tests in its order.
--
--   good_numbers s     "swaps are at most 16, size and salt in range"; a state of the table
--   good_ledger s      what the form says of the ledger: good_part of each part of it as of the whole, good_whole of the whole alone
--
-- Laws (proofs/BookLaws): the tests as statements, and back. (proofs/Theorems): form-kept.
-- Assumes nothing.
use Rattle.std.specs.Prelude.{Bool, not, ◌&&◌, ◌||◌, List, [], ◌∷◌, ◌++◌, ℕ, leb}
use Rattle.filter.specs.Lists.{ascending, distinct}
use Rattle.filter.specs.Calls.{in_range}
use Rattle.filter.specs.Sets.{is_nil, within, count, every, implies, same}
use Rattle.ledger.specs.Grid.{EXPECTING, EXPECTING_LAST, ACTIVE, PASSIVE, is_state}
use Rattle.ledger.specs.Session.{Ledger, Session, «in», ids_of, held, held_ids, concerned, all_came}

unfoldable pub good_numbers : Session → Bool
good_numbers s = is_state s.state && (leb s.swaps 16 && in_range s.size s.salt)

-- "in 0 and 1, and in 3 until its first message"
unfoldable pub idle : Session → Bool
idle s = «in» s EXPECTING || («in» s EXPECTING_LAST || («in» s PASSIVE && s.first))

-- "nothing is inquired, asked, offered, demanded or gained and DONE has not gone"
unfoldable pub nothing : Ledger → Bool
nothing L =
    every (is_nil L.inquired ∷ is_nil L.asked ∷ is_nil L.offered ∷ is_nil L.served ∷ is_nil L.demanded ∷ is_nil L.gained ∷ not L.done_went ∷ [])

module _ (derive : ℕ → ℕ) (table : List ℕ) where
  unfoldable pub good_books : Ledger → Bool
  good_books L =
      every (
      -- without repeats
      ascending L.inquired ∷ ascending L.asked ∷ ascending L.offered ∷ ascending L.served ∷ ascending L.demanded ∷ ascending L.gained
      -- "offered and asked are held"
      ∷ within L.offered (held derive table L) ∷ within L.asked (held_ids derive table L)
      ∷ within L.served L.offered ∷ within L.gained L.demanded
      -- "table, gained and unmet demands share no ID"
      ∷ distinct (ids_of derive (table ++ L.demanded))
      -- "and, with inquired ones not held, number at most 4,096"
      ∷ leb (count (concerned derive table L)) 4096
      ∷ [])

  -- what a part of a ledger must keep too
  unfoldable pub good_part : Session → Bool
  good_part s = good_books s.ledger && implies (idle s) (nothing s.ledger)

  -- what only the whole can show: "in 2 demands were inquired, and DONE went exactly when every inquired one is held"
  unfoldable pub good_whole : Session → Bool
  good_whole s =
      implies («in» s ACTIVE)
      (within (ids_of derive s.ledger.demanded) s.ledger.inquired && same s.ledger.done_went (all_came derive table s.ledger))

  unfoldable pub good_ledger : Session → Bool
  good_ledger s = good_part s && good_whole s

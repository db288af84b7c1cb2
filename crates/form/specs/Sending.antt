-- A session's own filter, put into a buffer: for every input, as both starts and swaps need it. Nothing here is to be believed: laws
-- (proofs/SendingLaws) show that where a session has its form it is `own_filter` of ledger's Session.
use Rattle.std.specs.Prelude.{[], ◌∷◌, List, ℕ, leb, length}
use Rattle.filter.specs.declared.answers.Refusal.TheVariants.{Form, Room, Range}
use Rattle.filter.specs.Answers.{first_of}
use Rattle.filter.specs.Calls.{in_range}
use Rattle.filter.specs.Table.{first_eight, ids_of, is_table}
use Rattle.message.specs.Writing.{Write, wrote}
use Rattle.ledger.specs.Session.{own_filter}

-- 65,568 bytes have room for every filter
unfoldable pub own_filter_into : List ℕ → (size salt : ℕ) → List ℕ → Write
own_filter_into table size salt out =
    wrote
    (first_of ((Room, leb 65568 (length out)) ∷ (Form, is_table first_eight table) ∷ (Range, in_range size salt) ∷ []))
    (own_filter (ids_of first_eight table) size salt) 0 out

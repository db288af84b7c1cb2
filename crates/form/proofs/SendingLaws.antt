-- A session's own filter, put into a buffer that has room for every filter: it goes by what building it answers.
--
--   own_by              what is put is what a writer puts that is refused as building is
--   own-granted         what was built without a refusal is a table's, in range
--   own_filter_there    what it is where the three tests hold
--
-- Assumes nothing.
use mathlib.Core.Path.{◌≡◌, refl, sym, ap, ◌∙◌}
use mathlib.Core.Bool.{Bool, true, false}
use mathlib.Core.List.{List, [], ◌∷◌}
use Prim.Native.Nat.{ℕ, ◌≤◌}
use borrow.Author.Tests.{le-leb}
use lib.ListN.{length}
use Rattle.std.specs.Prelude.{Option, None, Result}
use Rattle.bucket.specs.Columns.{Columns}
use Rattle.filter.specs.declared.answers.Refusal.{Refusal}
use Rattle.filter.specs.declared.answers.Refusal.TheVariants.{Form, Room, Range}
use Rattle.filter.specs.Answers.{number_of, first_of}
use Rattle.filter.specs.Calls.{in_range, has_room, Build, built, build_refusal, build_call}
use Rattle.filter.specs.Steps.{Wide}
use Rattle.filter.specs.Table.{first_eight, ids_of, is_table}
use Rattle.filter.proofs.GrantedLaws.{number_same}
use Rattle.filter.proofs.PartLaws.{range-sound}
use Rattle.message.specs.Writing.{write, wrote}
use Rattle.ledger.specs.Session.{own_filter}
use Rattle.ledger.proofs.FilterRoomLaws.{blank, blank-wide}
use Rattle.ledger.proofs.SendLaws.{written}
use Rattle.form.specs.Sending.{own_filter_into}

tests_hold : (a b : Bool) → first_of ((Form, a) ∷ (Range, b) ∷ []) ≡ None → (a ≡ true) × (b ≡ true)
tests_hold true true e = (refl, refl)
tests_hold true false e = cc
tests_hold false b e = cc

module _ (t : List ℕ) (size salt : ℕ) (out : List ℕ) where
  -- blank columns have room: a refusal is the table's, or the range's
  room_in : (c : Columns) → Wide size c → has_room size c ≡ true
  unfolding has_room
  room_in c w = rw (le-leb _ _ w.idsums, le-leb _ _ w.hashsums, le-leb _ _ w.counts)

  blank_refusal : build_refusal first_eight size salt t blank ≡ first_of ((Form, is_table first_eight t) ∷ (Range, in_range size salt) ∷ [])
  unfolding build_refusal
  blank_refusal = go (in_range size salt) refl
    where
      go : (b : Bool) → in_range size salt ≡ b
          → first_of ((Form, is_table first_eight t) ∷ (Range, b) ∷ (Room, has_room size blank) ∷ []) ≡ first_of ((Form, is_table first_eight t) ∷ (Range, b) ∷ [])
      go true h = rw (room_in blank (blank-wide size (range-sound size salt h).most))
      go false h = refl

  module _ (r : Option Refusal) {c : Columns} (e : built (number_of r) c ≡ build_call first_eight size salt t blank) where
    refused_by : r ≡ first_of ((Form, is_table first_eight t) ∷ (Range, in_range size salt) ∷ [])
    unfolding build_call
    refused_by = number_same (ap (λ (b : Build). b.refusal) e) ∙ blank_refusal

    pub own_by : 65568 ≤ length out → wrote r (own_filter (ids_of first_eight t) size salt) 0 out ≡ own_filter_into t size salt out
    unfolding own_filter_into
    own_by room = rw (le-leb 65568 (length out) room) (ap (λ (q : Option Refusal). wrote q (own_filter (ids_of first_eight t) size salt) 0 out) refused_by)

    pub own-granted : r ≡ None → (is_table first_eight t ≡ true) × (in_range size salt ≡ true)
    own-granted h = tests_hold (is_table first_eight t) (in_range size salt) (sym refused_by ∙ h)

  pub own_filter_there : is_table first_eight t ≡ true → in_range size salt ≡ true → 65568 ≤ length out
      → {r : Result ℕ Refusal} {o : List ℕ} → write r o ≡ own_filter_into t size salt out → write r o ≡ written (own_filter (ids_of first_eight t) size salt) 0 out
  unfolding own_filter_into wrote
  own_filter_there table range room e = e ∙ rw (table, range, le-leb 65568 (length out) room)

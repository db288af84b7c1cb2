-- A ledger that has its room is all there, so it is judged whole. Assumes nothing.
--
--   there-all     what is there of it is all of it
--   back_whole    refusal 1's test of it
use mathlib.Core.Path.{◌≡◌}
use mathlib.Core.Bool.{true, ◌&&◌}
use Prim.Native.Nat.{ℕ, ◌≤◌}
use native.Mathlib.Omega.{arith}
use lib.Dec.{leb}
use lib.ListN.{length}
use borrow.Author.Tests.{leb-true, eq-eqb}
use Rattle.bucket.proofs.TestLaws.{and_holds}
use Rattle.filter.specs.Sets.{implies}
use Rattle.filter.proofs.SetLaws.{and_l, and_r}
use Rattle.ledger.specs.Form.{good_part, good_whole, good_ledger}
use Rattle.ledger.specs.Memory.{all_below}
use Rattle.ledger.specs.Calls.{Given, numbered, memory_of, table_of, session_of, readable, there, is_whole, good_back, has_ledger_room}

-- the rooms of a ledger, and how much of them its numbers can take
pub record Ledgered (G : Given) : Type 0 where
  pub records : 262208 ≤ length G.records
  pub marks : 8192 ≤ length G.marks
  pub inquired : 4096 ≤ length G.inquired
  pub demanded-few : G.numbers.demanded ≤ 4096
  pub inquired-few : G.numbers.inquired ≤ 4096

pub ledgered : (G : Given) → has_ledger_room G ≡ true → readable G.numbers ≡ true → Ledgered G
unfolding has_ledger_room readable
ledgered G room read =
    let rest = and_r (leb 262208 (length G.records)) _ room in
    let few = and_r (leb G.numbers.done 1) _ (and_r (leb G.numbers.first 1) _ read) in
    record {
      records = leb-true 262208 (length G.records) (and_l _ _ room);
      marks = leb-true 8192 (length G.marks) (and_l _ _ rest);
      inquired = leb-true 4096 (length G.inquired) (and_r (leb 8192 (length G.marks)) _ rest);
      demanded-few = leb-true G.numbers.demanded 4096 (and_l _ _ few);
      inquired-few = leb-true G.numbers.inquired 4096 (and_r (leb G.numbers.demanded 4096) _ few);
    }

module _ (G : Given) (l : Ledgered G) where
  demanded-all : (there G).numbers.demanded ≡ G.numbers.demanded
  demanded-all = omega (arith, l.records, l.marks, l.demanded-few)

  inquired-all : (there G).numbers.inquired ≡ G.numbers.inquired
  inquired-all = omega (arith, l.inquired, l.inquired-few)

  pub there-all : there G ≡ G
  there-all = λ i. record {
    numbers = numbered G.numbers.state G.numbers.first G.numbers.size G.numbers.salt G.numbers.width G.numbers.swaps G.numbers.done (demanded-all i) (inquired-all i);
    table = G.table;
    records = G.records;
    marks = G.marks;
    inquired = G.inquired;
    columns = G.columns;
    ours = G.ours;
    theirs = G.theirs;
    hash = G.hash;
    message = G.message;
    out = G.out;
  }

  whole-all : is_whole G ≡ true
  unfolding is_whole
  whole-all = and_holds (eq-eqb _ _ demanded-all) (eq-eqb _ _ inquired-all)

  pub back_whole : (derive : ℕ → ℕ) → good_back derive G
      ≡ all_below 8 (memory_of G).marks && (all_below 16 (memory_of G).flags && good_ledger derive (table_of G) (session_of derive G))
  unfolding good_back good_ledger
  back_whole derive = λ i.
      all_below 8 (memory_of (there-all i)).marks
      && (all_below 16 (memory_of (there-all i)).flags
      && (good_part derive (table_of G) (session_of derive (there-all i)) && implies (whole-all i) (good_whole derive (table_of G) (session_of derive (there-all i)))))

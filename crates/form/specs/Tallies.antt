-- What the functions of this crate compute, in the code's own shape: how the form is judged by counting. Nothing here is to be believed: laws
-- (proofs/FormTie) show that the test is `good_form` of ledger's Calls.
--
--   front_by         the table, the numbers, and in state 1 the counts
--   tally_there      the ledger as far as it is there, with what the messages of a session count on
--   judged_by        both
use Rattle.std.specs.Prelude.{Bool, not, ◌&&◌, ◌||◌, cond, List, Option, Some, None, ℕ, ◌+◌, ◌-◌, ◌*◌, ◌/◌, ◌≤◌, min, eqb, ltb, leb, ℤ, length, take, count_by}
use Rattle.bucket.specs.Lists.{elem, part}
use Rattle.filter.specs.Calls.{in_range, are_counts}
use Rattle.filter.specs.Lists.{select, ascending}
use Rattle.filter.specs.Sets.{all, implies, same}
use Rattle.filter.specs.Table.{first_eight, ids_of, is_table}
use Rattle.ledger.specs.declared.numbers.Numbers.{Numbers}
use Rattle.ledger.specs.Grid.{EXPECTING, EXPECTING_LAST, ACTIVE, PASSIVE, is_state}
use Rattle.ledger.specs.Memory.{is_offered, is_served, is_met}
use Rattle.ledger.specs.Calls.{numbered, counts_nothing}
use Rattle.form.specs.declared.tallying.Counts.{Counts}
use Rattle.form.specs.declared.tallying.Tally.{Tally}

-- ---- tests of marks

-- a table's mark: served ones were offered
unfoldable pub table_mark : ℕ → Bool
table_mark m = ltb m 8 && not (is_served m && not (is_offered m))

-- a demanded hash's: only a met one has marks
unfoldable pub record_mark : ℕ → Bool
record_mark m = ltb m 16 && (not (is_served m && not (is_offered m)) && (is_met m || eqb m 0))

abbrev pub met_count : List ℕ → ℕ
met_count = count_by is_met

abbrev pub is_zero : ℕ → Bool
is_zero m = eqb m 0

-- how many numbers of the first list stand in the second
unfoldable pub common : List ℕ → List ℕ → ℕ
common l m = length (select (λ x. elem x m) l)

-- ---- the form of a ledger in memory, by counting

-- "in 0 and 1, and in 3 until its first message"
abbrev pub idle : ℕ → ℕ → Bool
idle state first = eqb state EXPECTING || (eqb state EXPECTING_LAST || (eqb state PASSIVE && eqb first 1))

-- what is counted of the bytes of the table and of the demanded hashes, the marks of each, and the IDs inquired
abbrev pub counts_of : (table known M F I : List ℕ) → Counts
counts_of table known M F I =
    let t = ids_of first_eight table in
    let ks = ids_of first_eight known in
    record {
      elements = length t;
      demanded = length ks;
      inquired = length I;
      both = common ks t;
      came = common I t;
      wanted = common ks I;
      met = met_count F;
      unmarked = all is_zero M;
    }

unfoldable pub form_by : Numbers → Counts → Bool → Bool
form_by N c whole =
    eqb c.both 0
    && (leb (c.elements + c.demanded + c.inquired) (4096 + c.came + c.wanted)
    && (implies (idle N.state N.first) c.unmarked
    && implies whole (implies (eqb N.state ACTIVE) (eqb c.wanted c.demanded && same (eqb N.done 1) (eqb (c.came + c.met) c.inquired)))))

-- what is counted is little, so it can be added up
pub record Few (c : Counts) : Type 0 where
  pub elements : c.elements ≤ 4096
  pub demanded : c.demanded ≤ 4096
  pub inquired : c.inquired ≤ 4096
  pub came : c.came ≤ c.inquired
  pub wanted : c.wanted ≤ c.demanded
  pub met : c.met ≤ c.demanded

abbrev pub tally_by : Counts → Tally
tally_by c = record { concerned = c.elements + c.demanded + c.inquired - c.came - c.wanted; came = c.came + c.met; unmet = c.demanded - c.met }

-- whole: these are all that the ledger counts
unfoldable pub good_tally : Numbers → Bool → (table known M F I : List ℕ) → Bool
good_tally N whole table known M F I =
    is_table first_eight known
    && (ascending I && (all table_mark M && (all record_mark F && form_by N (counts_of table known M F I) whole)))

unfoldable pub tally_of : Numbers → Bool → (table known M F I : List ℕ) → Option Tally
tally_of N whole table known M F I = cond (good_tally N whole table known M F I) (Some (tally_by (counts_of table known M F I))) None

-- the numbers of what is there of a ledger, by the lengths of its slices
abbrev pub cut : Numbers → (records marks inquired : ℕ) → Numbers
cut N records marks inquired =
    numbered N.state N.first N.size N.salt N.width N.swaps N.done
    (min N.demanded (min (records / 64) (marks - 4096))) (min N.inquired inquired)

unfoldable pub tally_there : Numbers → (table R M I : List ℕ) → Option Tally
tally_there N table R M I =
    let P = cut N (length R) (length M) (length I) in
    let known = take (64 * P.demanded) R in
    tally_of P (eqb P.demanded N.demanded && eqb P.inquired N.inquired) table known
    (take (length (ids_of first_eight table)) M) (part 4096 (length (ids_of first_eight known)) M) (take P.inquired I)

-- ---- the table, the numbers and the counts

unfoldable pub numbers_fit : Numbers → Bool
numbers_fit N =
    leb N.first 1
    && (leb N.done 1
    && (leb N.demanded 4096
    && (leb N.inquired 4096
    && (is_state N.state && (leb N.swaps 16 && (in_range N.size N.salt && implies (idle N.state N.first) (counts_nothing N)))))))

unfoldable pub front_by : Numbers → List ℕ → List ℤ → Bool
front_by N table counts =
    is_table first_eight table && (numbers_fit N && implies (eqb N.state EXPECTING_LAST) (are_counts 2520 counts))

unfoldable pub judged_by : Numbers → List ℕ → List ℕ → List ℕ → List ℕ → List ℤ → Option Tally
judged_by N table R M I counts = cond (front_by N table counts) (tally_there N table R M I) None

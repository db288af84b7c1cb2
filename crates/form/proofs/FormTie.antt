-- The code's test of the ledger's form, by counting, is the definition's. Assumes nothing.
use mathlib.Core.Path.{◌≡◌, refl, sym, ap, ap₂, subst, ◌∙◌}
use mathlib.Core.Bool.{Bool, true, false, ◌&&◌}
use mathlib.Core.List.{List, [], ◌++◌}
use Prim.Native.Nat.{ℕ, ◌+◌, ◌-◌, ◌*◌, ◌≤◌}
use native.Mathlib.Omega.{arith}
use lib.Dec.{eqb, ltb, leb}
use lib.ListN.{length, take, replicate, length-append, length-map, length-take, length-replicate}
use borrow.Author.Tests.{eqb-true, leb-true, le-leb}
use Rattle.bucket.specs.Lists.{part}
use Rattle.bucket.proofs.TestLaws.{and_holds}
use Rattle.filter.specs.Lists.{ascending}
use Rattle.filter.specs.Table.{first_eight, hashes_of, ids_of as ids_in, is_table}
use Rattle.filter.proofs.OrderLaws.{same_test}
use Rattle.ledger.specs.declared.numbers.Numbers.{Numbers}
use Rattle.filter.specs.Sets.{◌∪◌, within, all, implies, same}
use Rattle.ledger.specs.Grid.{ACTIVE}
use Rattle.ledger.specs.Session.{Ledger, ids_of, all_came}
use Rattle.ledger.specs.Form.{nothing, good_books, good_part, good_whole}
use Rattle.ledger.specs.Memory.{is_asked, is_offered, is_served, is_met, Memory, marked, all_below, decode, encode, marks_of, flags_of}
use Rattle.ledger.specs.Calls.{Given, memory_of, table_of, session_of, counts_nothing, good_front, there, is_whole, good_back}
use Rattle.form.specs.declared.tallying.Counts.{Counts}
use Rattle.form.specs.Tallies.{table_mark, record_mark, met_count, is_zero, common, idle, form_by, good_tally}
use Rattle.filter.proofs.SetLaws.{and_l, and_r, asc_of, of_asc}
use Rattle.filter.proofs.ListLaws.{length-nil, within_of, implies_of, of_implies, same_of, of_same}
use Rattle.ledger.proofs.BookLaws.{Table, Books, table_of_lem, books_of, of_books}
use Rattle.ledger.proofs.MemoryLaws.{encode-decode}
use Rattle.form.proofs.CountLaws.{common-all, apart_test}
use Rattle.ledger.proofs.GivenLaws.{books-apart, front-table, front-readable, front_quiet, Fits, there-fits, known-count, inquired-long, known-table, flags-all}
use Rattle.form.proofs.MarkTests.{table_below, record_below, zero_asked, zero_offered, zero_served, zero_marked, all_tested, marked-padded, all-padded, marked-count, marks_pass, flags_pass}
use Rattle.form.proofs.TestedLaws.{ids-length, books-count, came-all, books_tested, nothing_tested, tested_nothing}

-- ---- the two tests, of a memory

module _ (N : Numbers) (t : List ℕ) (M : Memory) where
  abbrev ledger : Ledger
  ledger = decode first_eight t M (eqb N.done 1)

  abbrev ts : List ℕ
  ts = ids_of first_eight t

  abbrev ks : List ℕ
  ks = ids_of first_eight M.records

  -- the clauses of the form, by counting
  abbrev roomy : Bool
  roomy = leb (length ts + length ks + length M.inquired) (4096 + common M.inquired ts + common ks M.inquired)

  abbrev inside : Bool
  inside = eqb (common ks M.inquired) (length ks)

  abbrev came_all : Bool
  came_all = eqb (common M.inquired ts + met_count M.flags) (length M.inquired)

  abbrev counts : Counts
  counts = record {
    elements = length ts;
    demanded = length ks;
    inquired = length M.inquired;
    both = common ks ts;
    came = common M.inquired ts;
    wanted = common ks M.inquired;
    met = met_count M.flags;
    unmarked = all is_zero M.marks;
  }

  -- by counting; whether the records are a table is told, and whether the ledger is whole
  unfoldable by_count : (known whole : Bool) → Bool
  by_count known whole =
      known
      && (ascending M.inquired
      && (all table_mark M.marks
      && (all record_mark M.flags && form_by N counts whole)))

  unfoldable by_ledger : Bool → Bool
  by_ledger whole =
      all_below 8 M.marks
      && (all_below 16 M.flags
      && ((good_books first_eight t ledger && implies (idle N.state N.first) (nothing ledger))
      && implies whole
      (implies (eqb N.state ACTIVE)
      (within (ids_of first_eight ledger.demanded) ledger.inquired && same ledger.done_went (all_came first_eight t ledger)))))

-- ---- clause by clause

module _ (N : Numbers) (t : List ℕ) (M : Memory) where
  -- at most 4,096
  roomy_to : roomy N t M ≡ true → length t + length M.records + length M.inquired ≤ 4096 + common M.inquired (ts N t M) + common (ks N t M) M.inquired
  roomy_to e =
      omega (
        arith,
        ids-length first_eight t,
        ids-length first_eight M.records,
        leb-true (length (ts N t M) + length (ks N t M) + length M.inquired) (4096 + common M.inquired (ts N t M) + common (ks N t M) M.inquired) e,
      )

  roomy-from : Table first_eight t → Books first_eight t (ledger N t M) → roomy N t M ≡ true
  unfolding decode
  roomy-from g b =
      le-leb (length (ts N t M) + length (ks N t M) + length M.inquired) (4096 + common M.inquired (ts N t M) + common (ks N t M) M.inquired)
      (omega (arith, ids-length first_eight t, ids-length first_eight M.records, b.few, books-count first_eight t (ledger N t M) b g))

  -- the marks are the ledger's
  marks-again : encode first_eight t (ledger N t M) ≡ M → marks_of first_eight t (ledger N t M) ≡ M.marks
  unfolding encode
  marks-again e = ap (λ (m : Memory). m.marks) e

  flags-again : encode first_eight t (ledger N t M) ≡ M → flags_of first_eight t (ledger N t M) ≡ M.flags
  unfolding encode
  flags-again e = ap (λ (m : Memory). m.flags) e

  -- nothing is in the ledger, where nothing is counted
  empty_to : (M.records ≡ []) × (M.inquired ≡ []) × (N.done ≡ 0) → all is_zero M.marks ≡ true → nothing (ledger N t M) ≡ true
  empty_to (d, i, w) z = nothing_tested first_eight t M (eqb N.done 1) d i z (ap (λ (n : ℕ). eqb n 1) w)

  -- every demanded one was inquired
  inside-same : within (ks N t M) M.inquired ≡ inside N t M
  unfolding within
  inside-same = common-all (ks N t M) M.inquired

  -- every inquired one came
  came_same : length M.flags ≡ length M.records → Books first_eight t (ledger N t M) → within (ks N t M) M.inquired ≡ true
      → all_came first_eight t (ledger N t M) ≡ came_all N t M
  unfolding decode
  came_same long b inquired =
      came-all first_eight t (ledger N t M) b (within_of (ks N t M) M.inquired inquired)
      ∙ ap (λ (n : ℕ). eqb (common M.inquired (ids_of first_eight t) + n) (length M.inquired)) (marked-count M.records M.flags long)

-- ---- both

module _ (N : Numbers) (t : List ℕ) (M : Memory) (known whole : Bool)
    (Known-of : known ≡ true → Table first_eight M.records) (of-known : Books first_eight t (ledger N t M) → known ≡ true)
    (quiet : idle N.state N.first ≡ true → (M.records ≡ []) × (M.inquired ≡ []) × (N.done ≡ 0))
    (g : Table first_eight t) (marksLong : length M.marks ≡ length t) (flagsLong : length M.flags ≡ length M.records) where
  to : by_count N t M known whole ≡ true → by_ledger N t M whole ≡ true
  unfolding by_count by_ledger form_by all_below decode
  to e =
      let e1 = and_r known _ e in
      let e2 = and_r (ascending M.inquired) _ e1 in
      let e3 = and_r (all table_mark M.marks) _ e2 in
      let e4 = and_r (all record_mark M.flags) _ e3 in
      let e5 = and_r (eqb (common (ks N t M) (ts N t M)) 0) _ e4 in
      let e6 = and_r (roomy N t M) _ e5 in
      let marks = and_l (all table_mark M.marks) _ e2 in
      let flags = and_l (all record_mark M.flags) _ e3 in
      let b =
      books_tested first_eight t M (eqb N.done 1) g (Known-of (and_l known _ e)) (asc_of M.inquired (and_l (ascending M.inquired) _ e1)) marks flags
      (eqb-true (common (ks N t M) (ts N t M)) 0 (and_l (eqb (common (ks N t M) (ts N t M)) 0) _ e4)) (roomy_to N t M (and_l (roomy N t M) _ e5)) in
      let active = implies_of whole _ (and_r (implies (idle N.state N.first) (all is_zero M.marks)) _ e6) in
      and_holds (all_tested table_mark (λ m. ltb m 8) table_below M.marks marks)
      (and_holds (all_tested record_mark (λ m. ltb m 16) record_below M.flags flags)
      (and_holds
      (and_holds (of_books first_eight t (ledger N t M) g.asc b)
      (of_implies (idle N.state N.first) (nothing (ledger N t M))
      (λ q. empty_to N t M (quiet q)
      (implies_of (idle N.state N.first) (all is_zero M.marks) (and_l (implies (idle N.state N.first) (all is_zero M.marks)) _ e6) q))))
      (of_implies whole _
      (λ w. of_implies (eqb N.state ACTIVE) _
      (λ q.
      let shown = implies_of (eqb N.state ACTIVE) _ (active w) q in
      let inquired = inside-same N t M ∙ and_l (inside N t M) _ shown in
      and_holds inquired
      (of_same (eqb N.done 1) (all_came first_eight t (ledger N t M))
      (same_of (eqb N.done 1) _ (and_r (inside N t M) _ shown) ∙ sym (came_same N t M flagsLong b inquired))))))))

  from : by_ledger N t M whole ≡ true → by_count N t M known whole ≡ true
  unfolding by_count by_ledger form_by decode
  from e =
      let e1 = and_r (all_below 8 M.marks) _ e in
      let e2 = and_r (all_below 16 M.flags) _ e1 in
      let e3 = and_l (good_books first_eight t (ledger N t M) && implies (idle N.state N.first) (nothing (ledger N t M))) _ e2 in
      let e4 = and_r (good_books first_eight t (ledger N t M) && implies (idle N.state N.first) (nothing (ledger N t M))) _ e2 in
      let b = books_of first_eight t (ledger N t M) (and_l (good_books first_eight t (ledger N t M)) _ e3) in
      let again =
      encode-decode first_eight t M (eqb N.done 1) g.asc b marksLong flagsLong (and_l (all_below 8 M.marks) _ e) (and_l (all_below 16 M.flags) _ e1) in
      let active = implies_of whole _ e4 in
      and_holds (of-known b)
      (and_holds (of_asc M.inquired b.inquired_asc)
      (and_holds (subst (λ (l : List ℕ). all table_mark l ≡ true) (marks-again N t M again) (marks_pass first_eight t (ledger N t M) b))
      (and_holds (subst (λ (l : List ℕ). all record_mark l ≡ true) (flags-again N t M again) (flags_pass first_eight t (ledger N t M) b))
      (and_holds (apart_test (ks N t M) (ts N t M) (books-apart first_eight t (ledger N t M) b))
      (and_holds (roomy-from N t M g b)
      (and_holds
      (of_implies (idle N.state N.first) (all is_zero M.marks)
      (λ q. tested_nothing first_eight t M (eqb N.done 1) (marks-again N t M again)
      (implies_of (idle N.state N.first) (nothing (ledger N t M)) (and_r (good_books first_eight t (ledger N t M)) _ e3) q)))
      (of_implies whole _
      (λ w. of_implies (eqb N.state ACTIVE) _
      (λ q.
      let shown = implies_of (eqb N.state ACTIVE) _ (active w) q in
      let inquired = and_l (within (ks N t M) M.inquired) _ shown in
      and_holds (sym (inside-same N t M) ∙ inquired)
      (of_same (eqb N.done 1) (came_all N t M)
      (same_of (eqb N.done 1) _ (and_r (within (ks N t M) M.inquired) _ shown) ∙ came_same N t M flagsLong b inquired)))))))))))

  tests_agree : by_count N t M known whole ≡ by_ledger N t M whole
  tests_agree = same_test (by_count N t M known whole) (by_ledger N t M whole) to from

-- ---- marks that are not there are as zero ones: neither test sees them

module _ (N : Numbers) (t : List ℕ) (M : Memory) where
  abbrev padded : Memory
  padded =
      record { records = M.records; flags = M.flags; marks = M.marks ++ replicate (length t - length M.marks) 0; inquired = M.inquired }

  padded-long : length M.marks ≤ length t → length padded.marks ≡ length t
  padded-long h =
      length-append M.marks (replicate (length t - length M.marks) 0)
      ∙ omega (arith, length-replicate {A = ℕ} (length t - length M.marks) 0)

  padded-ledger : ledger N t padded ≡ ledger N t M
  unfolding decode
  padded-ledger = λ i. record {
    inquired = M.inquired;
    asked = ids_of first_eight (same is_asked zero_asked i ++ marked is_asked M.records M.flags) ∪ [];
    offered = same is_offered zero_offered i ∪ marked is_offered M.records M.flags;
    served = same is_served zero_served i ∪ marked is_served M.records M.flags;
    demanded = M.records;
    gained = marked is_met M.records M.flags;
    done_went = eqb N.done 1;
  }
    where
      same : (p : ℕ → Bool) → p 0 ≡ false → marked p t padded.marks ≡ marked p t M.marks
      same p z = marked-padded p z t M.marks (length t - length M.marks)

  tested : (p : ℕ → Bool) → p 0 ≡ true → all p padded.marks ≡ all p M.marks
  tested p z = all-padded p z M.marks (length t - length M.marks)

  padded-count : (known whole : Bool) → by_count N t padded known whole ≡ by_count N t M known whole
  unfolding by_count
  padded-count known whole = rw (tested table_mark zero_marked, tested is_zero refl)

  padded_by : (whole : Bool) → by_ledger N t padded whole ≡ by_ledger N t M whole
  unfolding by_ledger all_below
  padded_by whole = rw (tested (λ m. ltb m 8) refl, padded-ledger)

-- ---- of what is there

module _ (G : Given) (front : good_front first_eight G ≡ true) where
  abbrev known : List ℕ
  known = take (64 * (there G).numbers.demanded) G.records

  fits : Fits (there G)
  fits = there-fits G (front-readable G front)

  good : Table first_eight (table_of G)
  good = table_of_lem first_eight G.table (front-table G front)

  -- the test of the code
  abbrev pub tested_good : Bool
  tested_good =
      good_tally (there G).numbers (is_whole G) G.table known (take (length (ids_in first_eight G.table)) G.marks)
      (part 4096 (length (ids_in first_eight known)) G.marks) (take (there G).numbers.inquired G.inquired)

  said-count : tested_good
      ≡ by_count (there G).numbers (table_of G) (memory_of (there G)) (is_table first_eight known) (is_whole G)
  unfolding good_tally by_count memory_of ids_of ids_in
  said-count =
      ap₂ (λ (a c : ℕ). by_count (there G).numbers (table_of G) (memory a c) (is_table first_eight known) (is_whole G))
      (length-map (table_of G) first_eight) (length-map (hashes_of known) first_eight ∙ known-count (there G) fits)
    where
      memory : ℕ → ℕ → Memory
      memory a c =
          record {
            records = hashes_of known;
            flags = part 4096 c G.marks;
            marks = take a G.marks;
            inquired = take (there G).numbers.inquired G.inquired;
          }

  said-ledger : by_ledger (there G).numbers (table_of G) (memory_of (there G)) (is_whole G) ≡ good_back first_eight G
  unfolding by_ledger good_back good_part good_whole session_of Rattle.ledger.specs.Form.idle
  said-ledger = refl

  -- where nothing may be counted nothing is there
  nothing-there : idle G.numbers.state G.numbers.first ≡ true
      → ((memory_of (there G)).records ≡ []) × ((memory_of (there G)).inquired ≡ []) × (G.numbers.done ≡ 0)
  unfolding memory_of counts_nothing session_of Rattle.ledger.specs.Form.idle
  nothing-there q =
      let e = implies_of (idle G.numbers.state G.numbers.first) (counts_nothing G.numbers) (front_quiet G front) q in
      let e1 = and_r (eqb G.numbers.demanded 0) _ e in
      let demanded = eqb-true G.numbers.demanded 0 (and_l (eqb G.numbers.demanded 0) _ e) in
      let inquired = eqb-true G.numbers.inquired 0 (and_l (eqb G.numbers.inquired 0) _ e1) in (
        length-nil (hashes_of known) (omega (arith, demanded, known-count (there G) fits)),
        length-nil (take (there G).numbers.inquired G.inquired) (omega (arith, inquired, inquired-long (there G) fits)),
        eqb-true G.numbers.done 0 (and_r (eqb G.numbers.inquired 0) _ e1),
      )

  marks-few : length (memory_of (there G)).marks ≤ length (table_of G)
  unfolding memory_of
  marks-few = omega (arith, length-take (length (table_of G)) G.marks)

  pub form_tie : tested_good ≡ good_back first_eight G
  unfolding memory_of session_of
  form_tie =
      let N = (there G).numbers in
      let t = table_of G in
      let M = memory_of (there G) in
      said-count
      ∙ sym (padded-count N t M (is_table first_eight known) (is_whole G))
      ∙ tests_agree N t (padded N t M) (is_table first_eight known) (is_whole G) (table_of_lem first_eight known)
      (λ b. known-table (there G) fits (subst (Books first_eight t) (padded-ledger N t M) b)) nothing-there good (padded-long N t M marks-few)
      (flags-all (there G) fits)
      ∙ padded_by N t M (is_whole G)
      ∙ said-ledger

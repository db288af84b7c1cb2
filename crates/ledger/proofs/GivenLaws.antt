-- What a sound step is given, read: tables, the form of the ledger, its lists and their rooms; and that the ledger, written again, leaves
-- memory and numbers as they are. Assumes nothing.
use mathlib.Core.Path.{◌≡◌, refl, sym, ap, ap₂, subst, ◌∙◌}
use mathlib.Core.Bool.{Bool, true, false, ◌&&◌}
use mathlib.Core.List.{List, [], ◌∷◌, ◌++◌, map}
use Prim.Native.Nat.{ℕ, ◌-◌, ◌*◌, ◌/◌, ◌%◌, ◌≤◌}
use native.Mathlib.Omega.{arith}
use lib.Dec.{eqb, leb}
use lib.ListN.{length, take}
use lib.Seq.{length-take-le}
use borrow.Author.Tests.{leb-true, eqb-true, eqb-false, eq-eqb, le-leb}
use Rattle.bucket.specs.Digits.{joined, packed}
use Rattle.bucket.specs.Lists.{over, part, Distinct}
use Rattle.bucket.proofs.TestLaws.{and_holds}
use Rattle.filter.specs.Calls.{are_counts, has_room}
use Rattle.filter.specs.Sets.{implies}
use Rattle.filter.specs.Table.{first_eight, hashes_of, is_table}
use Rattle.filter.proofs.OrderLaws.{distinct_test}
use Rattle.filter.proofs.TableLaws.{hashes-length}
use Rattle.message.proofs.HashLaws.{hashes-packed}
use Rattle.message.proofs.WholeLaws.{take_below, one-back}
use Rattle.ledger.specs.declared.numbers.Numbers.{Numbers}
use Rattle.ledger.specs.Session.{Ledger, «in», ids_of}
use Rattle.ledger.specs.Grid.{EXPECTING_LAST}
use Rattle.ledger.specs.Form.{good_numbers, idle, good_ledger}
use Rattle.ledger.specs.Memory.{bit, Memory, all_below, decode, encode, marks_of, flags_of}
use Rattle.ledger.specs.Calls.{Given, numbers_of, memory_of, table_of, session_of, readable, counts_nothing, good_front, there, good_back, good_form, has_ledger_room, has_rooms}
use Rattle.filter.proofs.SetLaws.{◌∈◌, in_append-l, in_append-r, Asc, and_l, and_r, of_asc, asc-distinct}
use Rattle.filter.proofs.ListLaws.{Apart, distinct-map}
use Rattle.ledger.proofs.BookLaws.{Table, Books, Form, table_of_lem, form_of}
use Rattle.ledger.proofs.HeldLaws.{ids_in_lem}
use Rattle.ledger.proofs.MemoryLaws.{encode-decode}
use Rattle.ledger.proofs.ThereLaws.{Ledgered, ledgered, there-all, back_whole}
use Rattle.ledger.proofs.LaidLaws.{part-there, over-same}
use Rattle.ledger.proofs.Sound.{Sound}

-- 0 and 1 as tests and back
bit_of : (x : ℕ) → x ≤ 1 → bit (eqb x 1) ≡ x
bit_of x h = go (eqb x 1) refl
  where
    go : (b : Bool) → eqb x 1 ≡ b → bit b ≡ x
    go true e = sym (eqb-true x 1 e)
    go false e = omega (arith, eqb-false x 1 e)

-- in form no demanded hash shares its ID with one of the table
pub books-apart : (derive : ℕ → ℕ) (t : List ℕ) (L : Ledger) → Books derive t L → Apart (ids_of derive L.demanded) (ids_of derive t)
books-apart derive t L b x e k =
    let (h, here, one) = ids_in_lem derive x L.demanded e in
    let (g, there, two) = ids_in_lem derive x t k in
    let same : h ≡ g = b.no_shared h g (in_append-r h t L.demanded here) (in_append-l g t L.demanded there) (one ∙ sym two) in
    b.demanded_new h here (subst (λ (y : ℕ). y ∈ t) (sym same) there)

-- ---- the table and the numbers

module _ (G : Given) (front : good_front first_eight G ≡ true) where
  pub front-table : is_table first_eight G.table ≡ true
  unfolding good_front
  front-table = and_l (is_table first_eight G.table) _ front

  numbered_well : readable G.numbers
      && (good_numbers (session_of first_eight G)
      && (implies (idle (session_of first_eight G)) (counts_nothing G.numbers)
      && implies («in» (session_of first_eight G) EXPECTING_LAST) (are_counts 2520 G.columns.counts))) ≡ true
  unfolding good_front
  numbered_well = and_r (is_table first_eight G.table) _ front

  pub front-readable : readable G.numbers ≡ true
  front-readable = and_l (readable G.numbers) _ numbered_well

  pub front-numbers : good_numbers (session_of first_eight G) ≡ true
  front-numbers = and_l (good_numbers (session_of first_eight G)) _ (and_r (readable G.numbers) _ numbered_well)

  pub front_quiet : implies (idle (session_of first_eight G)) (counts_nothing G.numbers) ≡ true
  front_quiet =
      and_l (implies (idle (session_of first_eight G)) (counts_nothing G.numbers)) _
      (and_r (good_numbers (session_of first_eight G)) _ (and_r (readable G.numbers) _ numbered_well))

pub readable-few : (N : Numbers) → readable N ≡ true → (N.first ≤ 1) × (N.done ≤ 1) × (N.demanded ≤ 4096) × (N.inquired ≤ 4096)
unfolding readable
readable-few N r =
    let r1 = and_r (leb N.first 1) _ r in
    let r2 = and_r (leb N.done 1) _ r1 in (
      leb-true N.first 1 (and_l (leb N.first 1) _ r),
      leb-true N.done 1 (and_l (leb N.done 1) _ r1),
      leb-true N.demanded 4096 (and_l (leb N.demanded 4096) _ r2),
      leb-true N.inquired 4096 (and_r (leb N.demanded 4096) _ r2),
    )

-- ---- what is there

-- numbers of which everything that they count is there
pub record Fits (G : Given) : Type 0 where
  pub records : 64 * G.numbers.demanded ≤ length G.records
  pub marks : G.numbers.demanded ≤ length G.marks - 4096
  pub inquired : G.numbers.inquired ≤ length G.inquired
  pub first : G.numbers.first ≤ 1
  pub done : G.numbers.done ≤ 1
  pub demanded-few : G.numbers.demanded ≤ 4096
  pub inquired-few : G.numbers.inquired ≤ 4096

pub there-fits : (G : Given) → readable G.numbers ≡ true → Fits (there G)
there-fits G r =
    let (first, done, demanded, inquired) = readable-few G.numbers r in
    record {
      records = omega arith;
      marks = omega arith;
      inquired = omega arith;
      first = first;
      done = done;
      demanded-few = omega (arith, demanded);
      inquired-few = omega (arith, inquired);
    }

-- how much of the slices the ledger takes
module _ (G : Given) (l : Fits G) where
  pub known-long : length (take (64 * G.numbers.demanded) G.records) ≡ 64 * G.numbers.demanded
  known-long = length-take-le (64 * G.numbers.demanded) G.records l.records

  pub known-count : length (hashes_of (take (64 * G.numbers.demanded) G.records)) ≡ G.numbers.demanded
  known-count = omega (arith, hashes-length (take (64 * G.numbers.demanded) G.records), known-long)

  pub inquired-long : length (take G.numbers.inquired G.inquired) ≡ G.numbers.inquired
  inquired-long = length-take-le G.numbers.inquired G.inquired l.inquired

  pub flags-all : length (memory_of G).flags ≡ length (memory_of G).records
  unfolding memory_of
  flags-all = part-there 4096 G.numbers.demanded G.marks l.marks ∙ sym known-count

  pub session-demanded : (session_of first_eight G).ledger.demanded ≡ hashes_of (take (64 * G.numbers.demanded) G.records)
  unfolding session_of decode memory_of
  session-demanded = refl

  -- the hashes demanded are a table
  pub known-table : Books first_eight (table_of G) (session_of first_eight G).ledger → is_table first_eight (take (64 * G.numbers.demanded) G.records) ≡ true
  unfolding is_table Rattle.filter.specs.Table.ids_of
  known-table b =
      and_holds (eq-eqb (length known % 64) 0 (omega (arith, known-long)))
      (and_holds (le-leb (length known / 64) 4096 (omega (arith, known-long, l.demanded-few)))
      (and_holds (of_asc (hashes_of known) asc) (distinct_test (map first_eight (hashes_of known)) once)))
    where
      known : List ℕ
      known = take (64 * G.numbers.demanded) G.records

      asc : Asc (hashes_of known)
      asc = rw session-demanded at b.demanded_asc

      behind : (x : ℕ) → x ∈ hashes_of known → x ∈ table_of G ++ (session_of first_eight G).ledger.demanded
      behind x p = in_append-r x (table_of G) (session_of first_eight G).ledger.demanded (rw session-demanded p)

      once : Distinct (map first_eight (hashes_of known))
      once =
          distinct-map first_eight (hashes_of known) (λ x y p q. b.no_shared x y (behind x p) (behind y q)) (asc-distinct (hashes_of known) asc)

-- ---- what the step's tests say

module _ (G : Given) (s : Sound G) where
  pub given-front : good_front first_eight G ≡ true
  unfolding good_form
  given-front = and_l (good_front first_eight G) _ s.form

  pub given-table : is_table first_eight G.table ≡ true
  given-table = front-table G given-front

  pub given-readable : readable G.numbers ≡ true
  given-readable = front-readable G given-front

  pub given-numbers : good_numbers (session_of first_eight G) ≡ true
  given-numbers = front-numbers G given-front

  pub given-room : has_ledger_room G ≡ true
  unfolding has_rooms
  given-room = and_l (has_ledger_room G) _ s.rooms

  pub given_back : good_back first_eight G ≡ true
  unfolding good_form
  given_back = and_r (good_front first_eight G) _ s.form

  rooms : Ledgered G
  rooms = ledgered G given-room given-readable

  pub given-all : there G ≡ G
  given-all = there-all G rooms

  pub given_ledgered : Fits G
  given_ledgered = subst Fits given-all (there-fits G given-readable)

  -- the ledger is all there, so it is judged whole
  given-whole : all_below 8 (memory_of G).marks && (all_below 16 (memory_of G).flags && good_ledger first_eight (table_of G) (session_of first_eight G)) ≡ true
  given-whole = sym (back_whole G rooms first_eight) ∙ given_back

  -- ---- the table and the form

  pub given-good : Table first_eight (table_of G)
  given-good = table_of_lem first_eight G.table given-table

  pub given-asc : Asc (table_of G)
  given-asc = given-good.asc

  pub given-form : Form first_eight (table_of G) (session_of first_eight G)
  given-form =
      form_of first_eight (table_of G) (session_of first_eight G) given-numbers
      (and_r (all_below 16 (memory_of G).flags) _ (and_r (all_below 8 (memory_of G).marks) _ given-whole))

  pub given-books : Books first_eight (table_of G) (session_of first_eight G).ledger
  given-books = given-form.books

  -- ---- how many, and rooms

  pub given-count : length (hashes_of (take (64 * G.numbers.demanded) G.records)) ≡ G.numbers.demanded
  given-count = known-count G given_ledgered

  pub given-few : (G.numbers.demanded ≤ 4096) × (G.numbers.inquired ≤ 4096) × (length (table_of G) ≤ 4096)
  given-few = (given_ledgered.demanded-few, given_ledgered.inquired-few, given-good.few)

  pub given-rooms : (262208 ≤ length G.records) × (8192 ≤ length G.marks) × (4096 ≤ length G.inquired) × (295008 ≤ length G.out) × (64 ≤ length G.hash)
  unfolding has_rooms
  given-rooms =
      let e1 = and_r (has_ledger_room G) _ s.rooms in
      let e2 = and_r (has_room 4096 G.columns) _ e1 in
      let e3 = and_r (leb 4096 (length G.ours)) _ e2 in
      let e4 = and_r (leb 4096 (length G.theirs)) _ e3 in (
        rooms.records,
        rooms.marks,
        rooms.inquired,
        leb-true 295008 (length G.out) (and_r (leb 64 (length G.hash)) _ e4),
        leb-true 64 (length G.hash) (and_l (leb 64 (length G.hash)) _ e4),
      )

  -- ---- the ledger's lists

  pub given-demanded : (session_of first_eight G).ledger.demanded ≡ hashes_of (take (64 * G.numbers.demanded) G.records)
  given-demanded = session-demanded G given_ledgered

  pub given-far : (session_of first_eight G).far ≡ joined 8 (part 262144 64 G.records)
  unfolding session_of
  given-far = refl

  pub given-inquired : (session_of first_eight G).ledger.inquired ≡ take G.numbers.inquired G.inquired
  unfolding session_of decode memory_of
  given-inquired = refl

  pub given-known : is_table first_eight (take (64 * G.numbers.demanded) G.records) ≡ true
  given-known = known-table G given_ledgered given-books

  pub ids-apart : Apart (ids_of first_eight (session_of first_eight G).ledger.demanded) (ids_of first_eight (table_of G))
  ids-apart = books-apart first_eight (table_of G) (session_of first_eight G).ledger given-books

  -- ---- marks

  marks-all : length (memory_of G).marks ≡ length (table_of G)
  unfolding memory_of
  marks-all = length-take-le (length (table_of G)) G.marks (omega (arith, rooms.marks, given-good.few))

  marks-again : encode first_eight (table_of G) (session_of first_eight G).ledger ≡ memory_of G
  unfolding session_of
  marks-again =
      encode-decode first_eight (table_of G) (memory_of G) (eqb G.numbers.done 1) given-asc given-books marks-all (flags-all G given_ledgered)
      (and_l (all_below 8 (memory_of G).marks) _ given-whole)
      (and_l (all_below 16 (memory_of G).flags) _ (and_r (all_below 8 (memory_of G).marks) _ given-whole))

  pub given-marks : marks_of first_eight (table_of G) (session_of first_eight G).ledger ≡ take (length (table_of G)) G.marks
  unfolding encode memory_of
  given-marks = ap (λ (m : Memory). m.marks) marks-again

  pub given-flags : flags_of first_eight (table_of G) (session_of first_eight G).ledger ≡ part 4096 G.numbers.demanded G.marks
  unfolding encode memory_of
  given-flags = ap (λ (m : Memory). m.flags) marks-again

  -- ---- written again

  pub same-records : over 262144 (packed 512 ((session_of first_eight G).far ∷ [])) (over 0 (packed 512 (session_of first_eight G).ledger.demanded) G.records) ≡ G.records
  same-records =
      ap₂ (λ (a b : List ℕ). over 262144 a (over 0 b G.records)) far demands
      ∙ ap (over 262144 (part 262144 64 G.records)) (over-same 0 (64 * G.numbers.demanded) G.records (omega (arith, given-few, given-rooms)))
      ∙ over-same 262144 64 G.records (omega (arith, given-rooms))
    where
      known : List ℕ
      known = take (64 * G.numbers.demanded) G.records

      demands : packed 512 (session_of first_eight G).ledger.demanded ≡ known
      demands =
          ap (packed 512) given-demanded
          ∙ hashes-packed known (take_below 8 (64 * G.numbers.demanded) G.records s.records-bytes) (omega (arith, known-long G given_ledgered))

      far : packed 512 ((session_of first_eight G).far ∷ []) ≡ part 262144 64 G.records
      far = ap (λ (x : ℕ). packed 512 (x ∷ [])) given-far ∙ one-back 64 262144 G.records s.records-bytes (omega (arith, given-rooms))

  pub same-marks : over 4096 (flags_of first_eight (table_of G) (session_of first_eight G).ledger) (over 0 (marks_of first_eight (table_of G) (session_of first_eight G).ledger) G.marks) ≡ G.marks
  same-marks =
      ap₂ (λ (a b : List ℕ). over 4096 a (over 0 b G.marks)) given-flags given-marks
      ∙ ap (over 4096 (part 4096 G.numbers.demanded G.marks)) (over-same 0 (length (table_of G)) G.marks (omega (arith, given-few, given-rooms)))
      ∙ over-same 4096 G.numbers.demanded G.marks (omega (arith, given-few, given-rooms))

  pub same-inquired : over 0 (session_of first_eight G).ledger.inquired G.inquired ≡ G.inquired
  same-inquired =
      ap (λ (l : List ℕ). over 0 l G.inquired) given-inquired
      ∙ over-same 0 G.numbers.inquired G.inquired (omega (arith, given-few, given-rooms))

  pub same_numbers : numbers_of (session_of first_eight G) ≡ G.numbers
  unfolding numbers_of session_of decode memory_of
  same_numbers = λ i. record {
    state = G.numbers.state;
    first = bit_of G.numbers.first given_ledgered.first i;
    size = G.numbers.size;
    salt = G.numbers.salt;
    width = G.numbers.width;
    swaps = G.numbers.swaps;
    done = bit_of G.numbers.done given_ledgered.done i;
    demanded = given-count i;
    inquired = inquired-long G given_ledgered i;
  }

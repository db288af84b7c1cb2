-- What a sound step's tally says: the form is good, how many IDs are held or wanted, how many inquired ones are held, and how many demands are
-- unmet, before and after an element comes. Assumes nothing.
use mathlib.Core.Path.{◌≡◌, refl, sym, ap, ap₂, ◌∙◌}
use mathlib.Core.Bool.{Bool, true}
use mathlib.Core.List.{List, [], ◌∷◌}
use Prim.Native.Nat.{ℕ, suc, ◌+◌, ◌-◌, ◌*◌, ◌≤◌}
use native.Mathlib.Omega.{arith}
use lib.Dec.{eqb}
use lib.ListN.{length, take, length-map}
use borrow.Author.Tests.{eqb-true, eq-eqb, ne_eqb}
use Rattle.std.proofs.Common.{Option, Some, None}
use Rattle.std.specs.Option.{unwrap_or}
use Rattle.bucket.specs.Lists.{elem, part}
use Rattle.bucket.proofs.TestLaws.{cond-made}
use Rattle.filter.specs.Table.{first_eight, hashes_of, ids_of as ids_in}
use Rattle.filter.proofs.OrderLaws.{same_test}
use Rattle.ledger.specs.declared.numbers.Numbers.{Numbers}
use Rattle.form.specs.declared.tallying.Tally.{Tally}
use Rattle.filter.specs.Sets.{insert, is_nil, count}
use Rattle.ledger.specs.Session.{Ledger, ids_of, unmet, gaining, concerned, all_came}
use Rattle.ledger.specs.Memory.{decode}
use Rattle.ledger.specs.Calls.{Given, memory_of, table_of, session_of, there, is_whole}
use Rattle.form.specs.Tallies.{met_count, common, good_tally, tally_of, tally_there}
use Rattle.filter.proofs.SetLaws.{◌∈◌, asc-distinct}
use Rattle.filter.proofs.ListLaws.{all_of}
use Rattle.ledger.proofs.BookLaws.{Books}
use Rattle.ledger.proofs.HeldLaws.{unmet_in}
use Rattle.ledger.proofs.KeptLaws.{books-gaining}
use Rattle.form.proofs.CountLaws.{common-rest, common-all}
use Rattle.ledger.proofs.PointLaws.{insert-length}
use Rattle.ledger.proofs.Sound.{Sound}
use Rattle.ledger.proofs.GivenLaws.{given-front, given_back, given-all, given_ledgered, given-good, given-form, given-books, given-count, given-few, given-demanded, given-inquired, inquired-long, flags-all}
use Rattle.form.proofs.MarkTests.{marked-count}
use Rattle.form.proofs.TestedLaws.{common_sym, books-count, came-all}
use Rattle.form.proofs.FormTie.{form_tie}

-- ---- how many are unmet

none-nil : (l : List ℕ) → eqb (length l) 0 ≡ is_nil l
none-nil [] = refl
none-nil (a ∷ l) = ne_eqb (suc (length l)) 0 (λ e. omega arith)

one_less : (n : ℕ) → eqb (n + 1) 1 ≡ eqb n 0
one_less n =
    same_test (eqb (n + 1) 1) (eqb n 0) (λ e. eq-eqb n 0 (omega (arith, eqb-true (n + 1) 1 e))) (λ e. eq-eqb (n + 1) 1 (omega (arith, eqb-true n 0 e)))

module _ (derive : ℕ → ℕ) (t : List ℕ) (L : Ledger) (b : Books derive t L) where
  gained-common : common L.demanded L.gained ≡ length L.gained
  gained-common =
      common_sym L.demanded L.gained (asc-distinct L.demanded b.demanded_asc) (asc-distinct L.gained b.gained_asc)
      ∙ eqb-true (common L.gained L.demanded) (length L.gained)
      (sym (common-all L.gained L.demanded) ∙ all_of (λ x. elem x L.demanded) L.gained b.gained_demanded)

  pub unmet-count : length L.gained + length (unmet L) ≡ length L.demanded
  unfolding unmet Rattle.filter.specs.Lists.minus
  unmet-count = omega (arith, common-rest L.demanded L.gained, gained-common)

-- ---- the tally

abbrev pub ledger_of : Given → Ledger
ledger_of G = (session_of first_eight G).ledger

abbrev pub tally_given : Given → Option Tally
tally_given G = tally_there G.numbers G.table G.records G.marks G.inquired

abbrev tallied : ℕ → ℕ → ℕ → Tally
tallied concerned came unmet = record { concerned = concerned; came = came; unmet = unmet }

-- what is told of a step: where there is no tally, nothing is counted
abbrev pub tally_told : Given → Tally
tally_told G = unwrap_or (tally_given G) (tallied 0 0 0)

-- what is told of a good form, by the hashes
module _ (table known M I : List ℕ) where
  abbrev ts : List ℕ
  ts = ids_of first_eight (hashes_of table)

  abbrev ks : List ℕ
  ks = ids_of first_eight (hashes_of known)

  abbrev counted : ℕ → ℕ → Tally
  counted nt n = tallied (nt + n + length I - common I ts - common ks I) (common I ts + met_count (part 4096 n M)) (n - met_count (part 4096 n M))

  -- the marks of the table's elements, and those of the demanded hashes
  abbrev front : List ℕ
  front = take (length (ids_in first_eight table)) M

  abbrev flags : List ℕ
  flags = part 4096 (length (ids_in first_eight known)) M

  told : (N : Numbers) (whole : Bool) → good_tally N whole table known front flags I ≡ true
      → tally_of N whole table known front flags I ≡ Some (counted (length (hashes_of table)) (length (hashes_of known)))
  unfolding tally_of ids_of ids_in
  told N whole e =
      sym (cond-made (Some (counted (length ts) (length ks))) None e)
      ∙ ap₂ (λ (nt n : ℕ). Some (counted nt n)) (length-map (hashes_of table) first_eight) (length-map (hashes_of known) first_eight)

module _ (G : Given) (s : Sound G) where
  met-gained : length (ledger_of G).gained ≡ met_count (part 4096 (length (hashes_of (take (64 * G.numbers.demanded) G.records))) G.marks)
  unfolding session_of decode memory_of
  met-gained =
      marked-count (memory_of G).records (memory_of G).flags (flags-all G (given_ledgered G s))
      ∙ ap (λ (n : ℕ). met_count (part 4096 n G.marks)) (sym (given-count G s))

  state_is : (session_of first_eight G).state ≡ G.numbers.state
  unfolding session_of
  state_is = refl

  inquired-all : length (ledger_of G).inquired ≡ G.numbers.inquired
  inquired-all = ap length (given-inquired G s) ∙ inquired-long G (given_ledgered G s)

  -- in the terms of the ledger
  tally_made : tally_given G
      ≡ Some (tallied (count (concerned first_eight (table_of G) (ledger_of G)))
      (common (ledger_of G).inquired (ids_of first_eight (table_of G)) + length (ledger_of G).gained)
      (length (unmet (ledger_of G))))
  unfolding tally_there is_whole session_of decode memory_of
  tally_made =
      told G.table (take (64 * (there G).numbers.demanded) G.records) G.marks (take (there G).numbers.inquired G.inquired) (there G).numbers (is_whole G)
      (form_tie G (given-front G s) ∙ given_back G s)
      ∙ ap said (given-all G s)
      ∙ (λ i.
      Some (tallied (sym (books-count first_eight (table_of G) (ledger_of G) (given-books G s) (given-good G s)) i)
      (common (ledger_of G).inquired (ids_of first_eight (table_of G)) + sym met-gained i)
      (left i)))
    where
      said : Given → Option Tally
      said H =
          let known = take (64 * H.numbers.demanded) H.records in
          Some (counted H.table known H.marks (take H.numbers.inquired H.inquired) (length (hashes_of H.table)) (length (hashes_of known)))

      left : length (hashes_of (take (64 * G.numbers.demanded) G.records)) - met_count (part 4096 (length (hashes_of (take (64 * G.numbers.demanded) G.records))) G.marks)
          ≡ length (unmet (ledger_of G))
      left = omega (arith, met-gained, unmet-count first_eight (table_of G) (ledger_of G) (given-books G s))

  -- a step in form has a tally
  pub tally_is : tally_given G ≡ Some (tally_told G)
  tally_is = tally_made ∙ ap Some (ap (λ (o : Option Tally). unwrap_or o (tallied 0 0 0)) (sym tally_made))

  -- after an element
  module _ (h : ℕ) (u : h ∈ unmet (ledger_of G)) where
    more : Books first_eight (table_of G) (gaining h (ledger_of G))
    more = books-gaining first_eight (table_of G) h (ledger_of G) u (given-books G s)

    longer : length (insert h (ledger_of G).gained) ≡ length (ledger_of G).gained + 1
    longer = insert-length h (ledger_of G).gained (unmet_in (ledger_of G) h u).1

    fewer : length (unmet (ledger_of G)) ≡ length (unmet (gaining h (ledger_of G))) + 1
    fewer =
        omega (
          arith,
          longer,
          unmet-count first_eight (table_of G) (ledger_of G) (given-books G s),
          unmet-count first_eight (table_of G) (gaining h (ledger_of G)) more,
        )

  -- of a tally that a step has
  module _ (T : Tally) (has : Some T ≡ tally_given G) where
    is : T ≡ tallied (count (concerned first_eight (table_of G) (ledger_of G)))
        (common (ledger_of G).inquired (ids_of first_eight (table_of G)) + length (ledger_of G).gained)
        (length (unmet (ledger_of G)))
    is = let e = has ∙ tally_made in cc

    pub concerned_of : T.concerned ≡ count (concerned first_eight (table_of G) (ledger_of G))
    concerned_of = ap (λ (T : Tally). T.concerned) is

    unmet_is : T.unmet ≡ length (unmet (ledger_of G))
    unmet_is = ap (λ (T : Tally). T.unmet) is

    came_is : T.came ≡ common (ledger_of G).inquired (ids_of first_eight (table_of G)) + length (ledger_of G).gained
    came_is = ap (λ (T : Tally). T.came) is

    pub unmet_of : eqb T.unmet 0 ≡ is_nil (unmet (ledger_of G))
    unmet_of = ap (λ (n : ℕ). eqb n 0) unmet_is ∙ none-nil (unmet (ledger_of G))

    pub last_of : (h : ℕ) → h ∈ unmet (ledger_of G) → eqb T.unmet 1 ≡ is_nil (unmet (gaining h (ledger_of G)))
    last_of h u =
        ap (λ (n : ℕ). eqb n 1) (unmet_is ∙ fewer h u)
        ∙ one_less (length (unmet (gaining h (ledger_of G))))
        ∙ none-nil (unmet (gaining h (ledger_of G)))

    pub came_of : (h : ℕ) → h ∈ unmet (ledger_of G) → G.numbers.state ≡ 2
        → eqb (T.came + 1) G.numbers.inquired ≡ all_came first_eight (table_of G) (gaining h (ledger_of G))
    came_of h u active =
        ap₂ eqb sum (sym inquired-all) ∙ sym (came-all first_eight (table_of G) (gaining h (ledger_of G)) (more h u) ((given-form G s).demands_inquired there))
      where
        there : eqb (session_of first_eight G).state 2 ≡ true
        there = eq-eqb (session_of first_eight G).state 2 (state_is ∙ active)

        sum : T.came + 1 ≡ common (ledger_of G).inquired (ids_of first_eight (table_of G)) + length (insert h (ledger_of G).gained)
        sum = omega (arith, came_is, longer h u)

    pub few_of : (T.concerned ≤ 4096) × (T.came ≤ 8192)
    few_of = (
      omega (arith, concerned_of, (given-books G s).few),
      omega (
        arith,
        came_is,
        given-few G s,
        inquired-all,
        common-rest (ledger_of G).inquired (ids_of first_eight (table_of G)),
        unmet-count first_eight (table_of G) (ledger_of G) (given-books G s),
        ap length (given-demanded G s),
        given-count G s,
      ),
    )

  -- of the tally that is told
  pub tally_concerned : (tally_told G).concerned ≡ count (concerned first_eight (table_of G) (ledger_of G))
  tally_concerned = concerned_of (tally_told G) (sym tally_is)

  pub tally_unmet : eqb (tally_told G).unmet 0 ≡ is_nil (unmet (ledger_of G))
  tally_unmet = unmet_of (tally_told G) (sym tally_is)

  pub tally_last : (h : ℕ) → h ∈ unmet (ledger_of G) → eqb (tally_told G).unmet 1 ≡ is_nil (unmet (gaining h (ledger_of G)))
  tally_last = last_of (tally_told G) (sym tally_is)

  pub tally_came : (h : ℕ) → h ∈ unmet (ledger_of G) → G.numbers.state ≡ 2
      → eqb ((tally_told G).came + 1) G.numbers.inquired ≡ all_came first_eight (table_of G) (gaining h (ledger_of G))
  tally_came = came_of (tally_told G) (sym tally_is)

  pub tally_few : ((tally_told G).concerned ≤ 4096) × ((tally_told G).came ≤ 8192)
  tally_few = few_of (tally_told G) (sym tally_is)

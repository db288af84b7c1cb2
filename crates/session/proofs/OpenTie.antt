-- A complete reading that opens the session: what the turn writes is the ledger that the step leaves, and what it sends is what the step sends.
-- Assumes nothing.
use mathlib.Core.Path.{◌≡◌, refl, sym, ap, ap₂, subst, ◌∙◌}
use mathlib.Core.Bool.{Bool, cond}
use mathlib.Core.List.{List, [], ◌∷◌, ◌++◌, map, foldr, map-map}
use Prim.Native.Nat.{ℕ, suc, ◌≤◌, ◌<◌}
use native.Mathlib.Nat.{zero-add}
use native.Mathlib.Omega.{arith}
use lib.Bits.{bit_xor}
use lib.Dec.{eqb}
use lib.ListN.{length, get_or, set, length-map, length-set}
use borrow.Author.Tests.{ne_eqb}
use Rattle.bucket.specs.Lists.{over, Distinct}
use Rattle.bucket.proofs.ListLaws.{elem-head, elem_tail}
use Rattle.bucket.proofs.OverLaws.{over-nil}
use Rattle.filter.specs.Calls.{Read}
use Rattle.filter.specs.Table.{first_eight, position}
use Rattle.filter.proofs.TableLaws.{ids-ascending}
use Rattle.message.specs.Layout.{Content, done}
use Rattle.message.specs.Writing.{layouts, inquiries_of, offers_of}
use Rattle.ledger.specs.declared.numbers.Numbers.{Numbers}
use Rattle.filter.specs.Sets.{◌∪◌, is_nil}
use Rattle.ledger.specs.Grid.{ACTIVE}
use Rattle.ledger.specs.Session.{Ledger, no_ledger, ours_in, theirs_in, ids_of, hash_of, held, checksum, hashes_for, opened, decoded}
use Rattle.ledger.specs.Memory.{bit, mark_of, flag_of, marks_of, flags_of}
use Rattle.ledger.specs.Calls.{Given, left, numbered, answered, numbers_of, table_of, session_of, went}
use Rattle.session.specs.Moves.{inserted_all}
use Rattle.form.specs.Answers.{opened_numbers}
use Rattle.session.specs.Turns.{mark_all, hashes_at, open_turn}
use Rattle.filter.proofs.SetLaws.{◌∈◌, ◌⊆◌, Asc, asc_of}
use Rattle.filter.proofs.ListLaws.{map_in}
use Rattle.ledger.proofs.HeldLaws.{hash_of_lem, hashes_in_lem}
use Rattle.ledger.proofs.PointLaws.{map-agree, position-within, position_at}
use Rattle.ledger.proofs.OpenLaws.{offered_at, position-ids, hashes-table, marks-opened}
use Rattle.ledger.proofs.LaidLaws.{over-same}
use Rattle.session.proofs.StoreLaws.{inserted_all_lem, inserted_count}
use Rattle.ledger.proofs.LaidLaws.{set-over}
use Rattle.ledger.proofs.GivenLaws.{given-table, given-asc, given-books, given-few, given-rooms, given-marks, same-records, same_numbers}
use Rattle.ledger.proofs.Sound.{Sound}
use Rattle.session.proofs.TurnLaws.{session_in, ledger_in, sent_only}

-- ---- marks

-- the turn's marks are set at positions
marks-at : (ts xs M : List ℕ) → mark_all ts xs M ≡ offered_at (map (position ts) xs) M
unfolding mark_all offered_at
marks-at ts [] M = refl
marks-at ts (x ∷ xs) M = marks-at ts xs (set M (position ts x) 2)

-- positions within what is laid over a list
offered-over : (ps ms M : List ℕ) → ((p : ℕ) → p ∈ ps → p < length ms) → over 0 (offered_at ps ms) M ≡ offered_at ps (over 0 ms M)
unfolding offered_at
offered-over [] ms M h = refl
offered-over (p ∷ ps) ms M h =
    offered-over ps (set ms p 2) M (λ q e. rw length-set (h q (elem_tail q p ps e)))
    ∙ ap (offered_at ps)
    (sym (set-over 0 ms M (omega arith) p 2 (h p (elem-head p ps))) ∙ ap (λ (n : ℕ). set (over 0 ms M) n 2) (zero-add p))

nil_test : (l : List ℕ) → is_nil l ≡ eqb (length l) 0
nil_test [] = refl
nil_test (a ∷ l) = sym (ne_eqb (suc (length l)) 0 (λ e. absurd (omega arith)))

module _ (G : Given) (s : Sound G) (empty : ledger_in G ≡ no_ledger) (ours theirs : List ℕ)
    (has : ours ⊆ ids_of first_eight (table_of G)) (once : Distinct theirs) (few : length theirs ≤ 4096) where
  abbrev t : List ℕ
  t = table_of G

  abbrev ts : List ℕ
  ts = Rattle.filter.specs.Table.ids_of first_eight G.table

  abbrev L : Ledger
  L = ledger_in G

  ids-asc : Asc (ids_of first_eight t)
  unfolding ids_of Rattle.filter.specs.Table.ids_of
  ids-asc = asc_of ts (ids-ascending G.table (given-table G s))

  -- where the elements of ours stand
  stands : (x : ℕ) → x ∈ ours → position ts x ≡ position t (hash_of first_eight t x)
  unfolding ids_of Rattle.filter.specs.Table.ids_of
  stands x e = position-ids first_eight t x (given-asc G s) ids-asc (has x e)

  hashes_are : hashes_for first_eight t L ours ≡ hashes_at t ts ours
  hashes_are =
      hashes-table first_eight t L (given-books G s) ours has
      ∙ map-agree (hash_of first_eight t) (λ x. get_or t (position ts x) 0) ours
      (λ x e. sym (ap (λ (p : ℕ). get_or t p 0) (stands x e) ∙ position_at t (hash_of first_eight t x) (given-asc G s) (hash_of_lem first_eight t x (has x e)).0))

  check_is : checksum first_eight t L ≡ foldr bit_xor 0 t
  unfolding checksum held ◌∪◌
  check_is = ap (λ (K : Ledger). foldr bit_xor 0 (K.gained ∪ t)) empty

  -- ---- what is written

  positions : map (position t) (hashes_for first_eight t L ours) ≡ map (position ts) ours
  positions =
      ap (map (position t)) (hashes-table first_eight t L (given-books G s) ours has)
      ∙ map-map (position t) (hash_of first_eight t) ours
      ∙ map-agree (λ x. position t (hash_of first_eight t x)) (position ts) ours (λ x e. sym (stands x e))

  inside : (p : ℕ) → p ∈ map (position t) (hashes_for first_eight t L ours) → p < length (marks_of first_eight t L)
  inside p e =
      let (h, m, q) = map_in (position t) p (hashes_for first_eight t L ours) e in
      let k : h ∈ t = hashes_in_lem first_eight t ours has h (subst (λ (l : List ℕ). h ∈ l) (hashes-table first_eight t L (given-books G s) ours has) m) in
      omega (arith, q, position-within t h (given-asc G s) k, length-map t (mark_of first_eight t L))

  marks_are : over 4096 (flags_of first_eight t (opened first_eight t ours theirs L)) (over 0 (marks_of first_eight t (opened first_eight t ours theirs L)) G.marks)
      ≡ mark_all ts ours G.marks
  marks_are =
      ap (λ (l : List ℕ). over 4096 (map (flag_of first_eight t (opened first_eight t ours theirs L)) l) now) (ap (λ (K : Ledger). K.demanded) empty)
      ∙ over-nil 4096 now
      ∙ ap (λ (ms : List ℕ). over 0 ms G.marks)
      (marks-opened first_eight t L (given-books G s) ours theirs has (ap (λ (K : Ledger). K.offered) empty) (given-asc G s)
      (ap (λ (K : Ledger). K.asked) empty) (ap (λ (K : Ledger). K.served) empty))
      ∙ offered-over (map (position t) (hashes_for first_eight t L ours)) (marks_of first_eight t L) G.marks inside
      ∙ ap₂ offered_at positions
      (ap (λ (ms : List ℕ). over 0 ms G.marks) (given-marks G s) ∙ over-same 0 (length t) G.marks (omega (arith, given-few G s, given-rooms G s)))
      ∙ sym (marks-at ts ours G.marks)
    where
      now : List ℕ
      now = over 0 (marks_of first_eight t (opened first_eight t ours theirs L)) G.marks

  inquired_are : over 0 (theirs ∪ []) G.inquired ≡ inserted_all 0 theirs G.inquired
  inquired_are = sym (inserted_all_lem theirs G.inquired once (omega (arith, given-rooms G s)))

  -- ---- what is sent

  module _ (size salt : ℕ) where
    abbrev none : Bool
    none = eqb (length theirs) 0

    abbrev sends : List Content
    sends = inquiries_of salt theirs ++ (offers_of (hashes_at t ts ours) ++ cond none (done (foldr bit_xor 0 t) ∷ []) [])

    sent_is : inquiries_of salt theirs ++ (offers_of (hashes_for first_eight t L ours) ++ cond (is_nil theirs) (done (checksum first_eight t L) ∷ []) []) ≡ sends
    sent_is = λ i. inquiries_of salt theirs ++ (offers_of (hashes_are i) ++ cond (nil_test theirs i) (done (check_is i) ∷ []) [])

    -- ---- the session that is opened

    numbers_are : numbered ACTIVE 0 size salt 0 G.numbers.swaps (bit (is_nil theirs)) (length L.demanded) (length (theirs ∪ []))
        ≡ opened_numbers G.numbers size salt (cond none 1 0) (length theirs)
    unfolding numbers_of
    numbers_are = λ i.
        numbered ACTIVE 0 size salt 0 G.numbers.swaps (bit (nil_test theirs i)) (ap (λ (N : Numbers). N.demanded) (same_numbers G s) i) (inserted_count theirs once i)

module _ (G : Given) (s : Sound G) (empty : ledger_in G ≡ no_ledger) (r : Read)
    (has : ours_in r ⊆ ids_of first_eight (table_of G)) (once : Distinct (theirs_in r)) (few : length (theirs_in r) ≤ 4096) (size salt : ℕ) where
  pub open_tie : let o = open_turn G.numbers G.table size salt (ours_in r) (theirs_in r) G.marks G.inquired G.out in
      left o.answer G.records o.marks o.inquired r.columns r.ours r.theirs o.out
      ≡ went first_eight 0 (decoded first_eight (table_of G) (session_in G) r size salt) G
  unfolding open_turn went decoded numbers_of session_of
  open_tie = sym (λ i.
      left
      (answered 0 (length (layouts (sent_is G s empty (ours_in r) (theirs_in r) has once few size salt i))) 0
      (numbers_are G s empty (ours_in r) (theirs_in r) has once few size salt i))
      (same-records G s i)
      (marks_are G s empty (ours_in r) (theirs_in r) has once few i)
      (inquired_are G s empty (ours_in r) (theirs_in r) has once few i)
      r.columns r.ours r.theirs
      ((sent_only (decoded first_eight (table_of G) (session_in G) r size salt).sent G.out
      ∙ ap (λ (cs : List Content). over 0 (layouts cs) G.out) (sent_is G s empty (ours_in r) (theirs_in r) has once few size salt)) i))

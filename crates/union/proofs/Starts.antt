-- A start leaves a session in form, whatever stands in the memory that it does not write. Assumes nothing.
--
--   begun_by a G   what a caller gives to the first step: what the start left, and for the rest anything, here from G
--   receiver-begins, sender-begins   it is in form
use mathlib.Core.Path.{◌≡◌, refl, sym, ap, ◌∙◌}
use mathlib.Core.Bool.{Bool, true, false, ◌&&◌, cond}
use mathlib.Core.List.{List, [], ◌∷◌, ◌++◌}
use Prim.Native.Nat.{ℕ, zero, suc, ◌-◌, ◌/◌, min}
use native.Mathlib.Omega.{arith}
use lib.Dec.{leb}
use lib.ListN.{length, take, replicate, length-replicate}
use Rattle.bucket.specs.Crc as Crc
use Rattle.bucket.specs.Lists.{elem, over}
use Rattle.bucket.proofs.OverLaws.{part-over}
use Rattle.bucket.proofs.TestLaws.{and_holds}
use Rattle.filter.specs.Calls.{in_range}
use Rattle.filter.specs.Sets.{implies, every, all, ◌∪◌}
use Rattle.filter.specs.Table.{hashes_of, is_table}
use Rattle.filter.proofs.ListLaws.{of_implies}
use Rattle.ledger.specs.declared.numbers.Numbers.{Numbers}
use Rattle.ledger.specs.Session.{no_ledger, ids_of}
use Rattle.ledger.specs.Form.{good_numbers, good_books, good_part, good_whole, idle, nothing}
use Rattle.ledger.specs.Memory.{is_asked, is_offered, is_served, is_met, marked, decode, all_below}
use Rattle.ledger.specs.Calls.{Given, given, numbered, answered, memory_of, table_of, session_of, readable, counts_nothing, good_front, there, is_whole, good_back, good_form, Started, starting, start_receiver, start_sender}
use Rattle.ledger.proofs.BookLaws.{Table, table_of_lem, of_books}
use Rattle.ledger.proofs.KeptLaws.{books-none}

none-marked : (p : ℕ → Bool) → p 0 ≡ false → (l : List ℕ) (n : ℕ) → marked p l (replicate n 0) ≡ []
unfolding marked
none-marked p e [] n = refl
none-marked p e (h ∷ l) zero = refl
none-marked p e (h ∷ l) (suc n) =
    ap (λ (b : Bool). cond b (h ∷ marked p l (replicate n 0)) (marked p l (replicate n 0))) e ∙ none-marked p e l n

zeros-low : (n : ℕ) → all_below 8 (replicate n 0) ≡ true
unfolding all_below all
zeros-low zero = refl
zeros-low (suc n) = zeros-low n

-- what a caller gives to the first step: what the start left, and else what it likes
abbrev pub begun_by : Started → Given → Given
begun_by a G =
    given a.answer.next G.table G.records a.marks G.inquired G.columns G.ours G.theirs G.hash G.message G.out

-- ---- memory in which a start has cleared the table's marks, with the sender's numbers or the receiver's

module _ (derive : ℕ → ℕ) (G : Given) (good : is_table derive G.table ≡ true) (size salt : ℕ) (range : in_range size salt ≡ true) where
  abbrev t : List ℕ
  t = table_of G

  abbrev zeros : List ℕ
  zeros = replicate (length t) 0

  abbrev counting : Bool → ℕ → ℕ → Numbers
  counting sends demanded inquired = numbered (cond sends 3 0) (cond sends 1 0) size salt 0 0 0 demanded inquired

  abbrev begun : Bool → Given
  begun sends = begun_by (starting (answered 0 0 0 (counting sends 0 0)) (over 0 zeros G.marks) []) G

  -- nothing is counted, so all of it is there
  nothing-there : (b : Bool) → there (begun b) ≡ begun b
  nothing-there b = λ i.
      let room : ℕ = min (length G.records / 64) (length (over 0 zeros G.marks) - 4096) in
      begun_by (starting (answered 0 0 0 (counting b (least room i) (least (length G.inquired) i))) (over 0 zeros G.marks) []) G
    where
      least : (n : ℕ) → min 0 n ≡ 0
      least n = omega arith

  marks_are : (b : Bool) → (memory_of (begun b)).marks ≡ zeros
  unfolding memory_of
  marks_are b = ap (λ (n : ℕ). take n (over 0 zeros G.marks)) (sym (length-replicate (length t) 0)) ∙ part-over 0 G.marks zeros (omega arith)

  none : (b : Bool) (p : ℕ → Bool) → p 0 ≡ false → marked p t (memory_of (begun b)).marks ≡ []
  none b p e = ap (marked p t) (marks_are b) ∙ none-marked p e t (length t)

  ledger_is : (b : Bool) → (session_of derive (begun b)).ledger ≡ no_ledger
  unfolding session_of decode memory_of marked ids_of is_asked is_offered is_served is_met ◌∪◌ hashes_of Crc.tabulated
  ledger_is b = λ i. record {
    inquired = [];
    asked = ap (λ (l : List ℕ). ids_of derive (l ++ []) ∪ []) (none b is_asked refl) i;
    offered = ap (λ (l : List ℕ). l ∪ []) (none b is_offered refl) i;
    served = ap (λ (l : List ℕ). l ∪ []) (none b is_served refl) i;
    demanded = [];
    gained = [];
    done_went = false;
  }

  ledger-good : (b : Bool) → good_part derive t (session_of derive (begun b)) ≡ true
  unfolding good_part nothing every
  ledger-good b =
      let g : Table derive t = table_of_lem derive G.table good in
      and_holds (ap (good_books derive t) (ledger_is b) ∙ of_books derive t no_ledger g.asc (books-none derive t g))
      (of_implies (idle (session_of derive (begun b))) _ (λ k. ap nothing (ledger_is b)))

  front-good : (b : Bool) → good_front derive (begun b) ≡ true
  unfolding good_front readable good_numbers elem session_of counts_nothing idle
  front-good false = and_holds good (and_holds range refl)
  front-good true = and_holds good (and_holds range refl)

  whole-good : (b : Bool) → good_whole derive t (session_of derive (begun b)) ≡ true
  unfolding good_whole session_of
  whole-good false = refl
  whole-good true = refl

  begun-good : (b : Bool) → good_form derive (begun b) ≡ true
  unfolding good_form good_back
  begun-good b =
      and_holds (front-good b)
      ((λ i. all_below 8 (memory_of (nothing-there b i)).marks
      && (all_below 16 (memory_of (nothing-there b i)).flags
      && (good_part derive t (session_of derive (nothing-there b i)) && implies (is_whole (begun b)) (good_whole derive t (session_of derive (nothing-there b i))))))
      ∙ and_holds (ap (all_below 8) (marks_are b) ∙ zeros-low (length t))
      (and_holds (no_flags b) (and_holds (ledger-good b) (of_implies (is_whole (begun b)) _ (λ k. whole-good b)))))
    where
      no_flags : (b : Bool) → all_below 16 (memory_of (begun b)).flags ≡ true
      no_flags b = unfold memory_of all_below all in refl

-- ---- the two starts, where they are not refused

module _ (derive : ℕ → ℕ) (G : Given) where
  -- the first step is given a good form
  abbrev pub Begins : Started → Type 0
  Begins a = good_form derive (begun_by a G) ≡ true

  pub receiver-begins : (start_receiver derive G.table G.marks).answer.refusal ≡ 0 → Begins (start_receiver derive G.table G.marks)
  unfolding start_receiver
  receiver-begins = go (is_table derive G.table) (leb 8192 (length G.marks)) refl refl
    where
      go : (x y : Bool) → is_table derive G.table ≡ x → leb 8192 (length G.marks) ≡ y → (start_receiver derive G.table G.marks).answer.refusal ≡ 0
          → Begins (start_receiver derive G.table G.marks)
      go true true e r = rw (e, r) (λ z. begun-good derive G e 37 0 (unfold in_range in refl) false)
      go true false e r = rw (e, r) (λ z. absurd (omega (arith, z)))
      go false y e r = rw e (λ z. absurd (omega (arith, z)))

  pub sender-begins : (size salt : ℕ) (out : List ℕ) → (start_sender derive size salt G.table G.marks out).answer.refusal ≡ 0
      → Begins (start_sender derive size salt G.table G.marks out)
  unfolding start_sender
  sender-begins size salt out = go (is_table derive G.table) (in_range size salt) (leb 8192 (length G.marks) && leb 295008 (length out)) refl refl refl
    where
      go : (x y w : Bool) → is_table derive G.table ≡ x → in_range size salt ≡ y → leb 8192 (length G.marks) && leb 295008 (length out) ≡ w
          → (start_sender derive size salt G.table G.marks out).answer.refusal ≡ 0 → Begins (start_sender derive size salt G.table G.marks out)
      go true true true e f r = rw (e, f, r) (λ z. begun-good derive G e size salt f true)
      go true true false e f r = rw (e, f, r) (λ z. absurd (omega (arith, z)))
      go true false w e f r = rw (e, f) (λ z. absurd (omega (arith, z)))
      go false y w e f r = rw e (λ z. absurd (omega (arith, z)))

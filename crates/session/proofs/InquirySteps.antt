-- INQUIRY: the walk on a copy of the marks, and each way through the message's function: what it leaves is the turn. Assumes nothing.
use mathlib.Core.Path.{◌≡◌, refl, sym, ap, ap₂, ◌∙◌}
use mathlib.Core.Bool.{Bool, true, false, cond}
use mathlib.Core.List.{List}
use Prim.Native.Nat.{ℕ, ◌+◌, ◌*◌, ◌≤◌}
use native.Mathlib.Nat.{zero-add}
use native.Mathlib.Omega.{arith}
use lib.Dec.{eqb}
use lib.ListN.{length, take}
use lib.Seq.{length-take-le}
use borrow.Author.Tests.{eq-eqb, ne_eqb}
use Rattle.bucket.specs.Digits.{packed}
use Rattle.bucket.specs.Lists.{over}
use Rattle.filter.specs.Table.{first_eight, hashes_of}
use Rattle.message.specs.Writing.{layouts, offers_of}
use Rattle.ledger.specs.declared.numbers.Numbers.{Numbers}
use Rattle.ledger.specs.declared.numbers.Answer.{Answer}
use Rattle.ledger.proofs.BelowLaws.{hashes-written}
use Rattle.session.specs.Moves.{Walk, ask_all}
use Rattle.session.specs.Ready.{Walked}
use Rattle.form.specs.Answers.{aborted, changed}
use Rattle.session.specs.Turns.{MarkTurn, mark_turn, inquiry_turn}
use Rattle.std.specs.Prelude.{Ok}
use Rattle.ledger.proofs.RoomLaws.{offers-room}
use Rattle.session.proofs.WalkedLaws.{Asked, asked-all}

-- ---- the walk

abbrev asked : List ℕ → List ℕ → List ℕ → List ℕ → Walk
asked table known xs M = ask_all first_eight (hashes_of table) (hashes_of known) xs (take 8192 M)

-- what it leaves in the copy of the marks and in the room for hashes
pub record Inquired (table known xs M : List ℕ) (count : ℕ) (work bytes : List ℕ) : Type 0 where
  pub judged : (asked table known xs M).fine ≡ true
  pub few : count ≤ 4096
  pub long : length work ≡ 8192
  pub marks : work ≡ (asked table known xs M).marks
  pub hashes : hashes_of (take (64 * count) bytes) ≡ (asked table known xs M).hashes
  pub room : length (layouts (offers_of (hashes_of (take (64 * count) bytes)))) ≤ 262164

module _ (table known xs M : List ℕ) {work : List ℕ} (copied : work ≡ take 8192 M) where
  same : ask_all first_eight (hashes_of table) (hashes_of known) xs work ≡ asked table known xs M
  same = ap (ask_all first_eight (hashes_of table) (hashes_of known) xs) copied

  pub not-inquired : (ask_all first_eight (hashes_of table) (hashes_of known) xs work).fine ≡ false → (asked table known xs M).fine ≡ false
  not-inquired e = sym (ap (λ (w : Walk). w.fine) same) ∙ e

  pub inquired : {work' bytes₀ bytes : List ℕ} {count : ℕ} → 8192 ≤ length M → length bytes₀ ≡ 262144
      → Walked (ask_all first_eight (hashes_of table) (hashes_of known) xs work) (Ok count) work' bytes bytes₀ → Inquired table known xs M count work' bytes
  inquired {work'} {bytes₀} {bytes} {count} room large (walked, marked) = record {
    judged = sym (ap (λ (w : Walk). w.fine) same) ∙ walked.good;
    few = omega (arith, many, kept.few);
    long = ap length (marked ∙ ap (λ (w : Walk). w.marks) same) ∙ kept.same;
    marks = marked ∙ ap (λ (w : Walk). w.marks) same;
    hashes = gathered;
    room = rw gathered (offers-room (asked table known xs M).hashes kept.few);
  }
    where
      kept : Asked 8192 (asked table known xs M)
      kept = rw (length-take-le 8192 M room) at (asked-all table known xs (take 8192 M))

      many : count ≡ length (asked table known xs M).hashes
      many = walked.count ∙ ap (λ (w : Walk). length w.hashes) same

      gathered : hashes_of (take (64 * count) bytes) ≡ (asked table known xs M).hashes
      gathered =
          ap₂ (λ (n : ℕ) (l : List ℕ). hashes_of (take (64 * n) l)) many (walked.bytes-are ∙ ap (λ (w : Walk). over 0 (packed 512 w.hashes) bytes₀) same)
          ∙ hashes-written (asked table known xs M).hashes bytes₀ kept.short (omega (arith, kept.few))

-- ---- the ways through

module _ (N : Numbers) (table known : List ℕ) (salt : ℕ) (xs M out : List ℕ) where
  abbrev turn : MarkTurn
  turn = inquiry_turn N (hashes_of table) (hashes_of known) salt xs M out

  abbrev answer : ℕ → Answer
  answer sent = changed N N.state N.done N.demanded sent 0

  abbrev taken : MarkTurn
  taken =
      let w = asked table known xs M in
      mark_turn (answer (length (layouts (offers_of w.hashes)))) (over 0 w.marks M) (over 0 (layouts (offers_of w.hashes)) out)

  abbrev aborts : ℕ → MarkTurn
  aborts n = mark_turn (aborted n N) M out

  decided : {a b : Bool} → eqb salt N.salt ≡ a → (asked table known xs M).fine ≡ b → cond a (cond b taken (aborts 7)) (aborts 7) ≡ turn
  unfolding inquiry_turn
  decided e f = λ i. cond (sym e i) (cond (sym f i) taken (aborts 7)) (aborts 7)

  pub inquiry-salted : (salt ≡ N.salt → ⊥) → aborts 7 ≡ turn
  inquiry-salted f = decided (ne_eqb salt N.salt f) refl

  module _ (same : salt ≡ N.salt) where
    pub inquiry_bad : (asked table known xs M).fine ≡ false → aborts 7 ≡ turn
    inquiry_bad e = decided (eq-eqb salt N.salt same) e

    pub inquiry-taken : {count : ℕ} {work bytes : List ℕ} → Inquired table known xs M count work bytes → {r : Answer} {sent : ℕ} {M' out' : List ℕ} → r ≡ answer sent → M' ≡ over 0 work M
        → (sent ≡ 0 + length (layouts (offers_of (hashes_of (take (64 * count) bytes))))) × (out' ≡ over 0 (layouts (offers_of (hashes_of (take (64 * count) bytes)))) out)
        → mark_turn r M' out' ≡ turn
    inquiry-taken {count} {work} {bytes} went {r} {sent} {M'} {out'} is back (many, wrote) =
        (λ i. mark_turn ((is ∙ ap answer long) i) (marks i) (written i)) ∙ decided (eq-eqb salt N.salt same) went.judged
      where
        w : Walk
        w = asked table known xs M

        long : sent ≡ length (layouts (offers_of w.hashes))
        long = many ∙ zero-add (length (layouts (offers_of (hashes_of (take (64 * count) bytes))))) ∙ ap (λ (hs : List ℕ). length (layouts (offers_of hs))) went.hashes

        marks : M' ≡ over 0 w.marks M
        marks = back ∙ ap (λ (l : List ℕ). over 0 l M) went.marks

        written : out' ≡ over 0 (layouts (offers_of w.hashes)) out
        written = wrote ∙ ap (λ (hs : List ℕ). over 0 (layouts (offers_of hs)) out) went.hashes

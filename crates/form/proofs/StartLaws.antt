-- The two starts, over variables: each answer is the definition's at the test that failed, and behind them what was cleared and written is the
-- definition's memory. Assumes nothing.
use mathlib.Core.Path.{◌≡◌, refl, ap, ap₂, ◌∙◌}
use mathlib.Core.Logic.{◌⊎◌, inl, inr}
use mathlib.Core.Bool.{Bool, true, false, ◌||◌, true≢false}
use mathlib.Core.List.{List, [], ◌++◌}
use Prim.Native.Nat.{ℕ, ◌+◌, ◌≤◌, ◌<◌}
use borrow.Author.Tests.{ltb-false, le-leb, lt-leb}
use lib.Dec.{ltb}
use native.Mathlib.Omega.{arith}
use lib.ListN.{length, take, drop, replicate, length-replicate}
use lib.Seq.{length-take-le}
use Rattle.bucket.specs.Lists.{over}
use Rattle.filter.specs.Calls.{in_range}
use Rattle.filter.specs.Table.{first_eight, hashes_of, ids_of, is_table}
use Rattle.message.specs.Writing.{layouts}
use Rattle.ledger.specs.declared.numbers.Numbers.{Numbers}
use Rattle.ledger.specs.declared.numbers.Answer.{Answer}
use Rattle.ledger.specs.Session.{ids_of as ids_in, own_filter}
use Rattle.ledger.specs.Calls.{numbered, answered, no_session, starting, start_receiver, start_sender}

-- the first n marks filled with zeros
pub cleared : (n : ℕ) (marks zeros : List ℕ) → n ≤ length marks → zeros ≡ replicate (length (take n marks)) 0 → zeros ++ drop n marks ≡ over 0 (replicate n 0) marks
unfolding over
cleared n marks zeros h e =
    let all : n ≡ 0 + length (replicate {A = ℕ} n 0) = omega (arith, length-replicate {A = ℕ} n 0) in
    ap₂ (λ (z : List ℕ) (k : ℕ). z ++ drop k marks) (e ∙ ap (λ (k : ℕ). replicate k 0) (length-take-le n marks h)) all

-- ---- the receiver's

module _ (t marks : List ℕ) {a : Answer} where
  pub receiver_no_table : is_table first_eight t ≡ false → a ≡ answered 1 0 0 no_session → starting a marks [] ≡ start_receiver first_eight t marks
  unfolding start_receiver
  receiver_no_table h e = rw (h, e)

  module _ (table : is_table first_eight t ≡ true) where
    pub receiver_no_room : length marks < 8192 → a ≡ answered 2 0 0 no_session → starting a marks [] ≡ start_receiver first_eight t marks
    unfolding start_receiver
    receiver_no_room h e = rw (table, lt-leb 8192 (length marks) h, e)

    pub receiver_starts : 8192 ≤ length marks → {N : Numbers} {n : ℕ} {marks' : List ℕ} → N ≡ numbered 0 0 37 0 0 0 0 0 0 → a ≡ answered 0 0 0 N
        → n ≡ length (hashes_of t) → marks' ≡ over 0 (replicate n 0) marks → starting a marks' [] ≡ start_receiver first_eight t marks
    unfolding start_receiver layouts over
    receiver_starts h en ea el em = rw (table, le-leb 8192 (length marks) h, ea, en, em, el)

-- ---- the sender's

-- two rooms tested at once
pub rooms-there : (m n k l : ℕ) → ltb k m || ltb l n ≡ false → (m ≤ k) × (n ≤ l)
rooms-there m n k l e = go (ltb k m) (ltb l n) refl refl e
  where
    go : (a b : Bool) → ltb k m ≡ a → ltb l n ≡ b → a || b ≡ false → (m ≤ k) × (n ≤ l)
    go false b x y h = (ltb-false k m x, ltb-false l n (y ∙ h))
    go true b x y h = absurd (true≢false h)

-- the IDs of a table
ids-same : (t : List ℕ) → ids_of first_eight t ≡ ids_in first_eight (hashes_of t)
unfolding ids_of ids_in
ids-same t = refl

module _ (size salt : ℕ) (t marks out : List ℕ) {a : Answer} where
  pub sender_no_table : is_table first_eight t ≡ false → a ≡ answered 1 0 0 no_session → starting a marks out ≡ start_sender first_eight size salt t marks out
  unfolding start_sender
  sender_no_table h e = rw (h, e)

  module _ (table : is_table first_eight t ≡ true) where
    pub sender-out_of_range : in_range size salt ≡ false → a ≡ answered 3 0 0 no_session → starting a marks out ≡ start_sender first_eight size salt t marks out
    unfolding start_sender
    sender-out_of_range h e = rw (table, h, e)

    module _ (range : in_range size salt ≡ true) where
      pub sender_no_room : (length marks < 8192) ⊎ ((8192 ≤ length marks) × (length out < 295008)) → a ≡ answered 2 0 0 no_session
          → starting a marks out ≡ start_sender first_eight size salt t marks out
      unfolding start_sender
      sender_no_room (inl h) e = rw (table, range, lt-leb 8192 (length marks) h, e)
      sender_no_room (inr h) e = rw (table, range, le-leb 8192 (length marks) h.0, lt-leb 295008 (length out) h.1, e)

      pub sender_starts : 8192 ≤ length marks → 295008 ≤ length out → {N : Numbers} {n sent : ℕ} {marks' out' : List ℕ}
          → N ≡ numbered 3 1 size salt 0 0 0 0 0 → a ≡ answered 0 sent 0 N → n ≡ length (hashes_of t) → marks' ≡ over 0 (replicate n 0) marks
          → sent ≡ length (layouts (own_filter (ids_of first_eight t) size salt)) → out' ≡ over 0 (layouts (own_filter (ids_of first_eight t) size salt)) out
          → starting a marks' out' ≡ start_sender first_eight size salt t marks out
      unfolding start_sender
      sender_starts h g en ea el em es eo =
          rw (table, range, le-leb 8192 (length marks) h, le-leb 295008 (length out) g, ea, en, em, el, eo, es, ids-same t)

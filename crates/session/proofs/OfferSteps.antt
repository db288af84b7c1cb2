-- OFFER: the walk over its hashes, and each way through the message's function: what it leaves is the turn. Assumes nothing.
use mathlib.Core.Path.{◌≡◌, refl, sym, ap, ap₂, ◌∙◌}
use mathlib.Core.Bool.{Bool, true, false, ◌||◌, cond}
use mathlib.Core.List.{List}
use Prim.Native.Nat.{ℕ, ◌+◌, ◌*◌, ◌≤◌}
use native.Mathlib.Nat.{zero-add}
use native.Mathlib.Omega.{arith}
use lib.Dec.{eqb, ltb}
use lib.ListN.{length, take}
use Rattle.bucket.specs.Lists.{over}
use Rattle.filter.specs.Table.{first_eight, hashes_of}
use Rattle.message.specs.Writing.{layouts, demands_of}
use Rattle.ledger.specs.declared.numbers.Numbers.{Numbers}
use Rattle.ledger.specs.declared.numbers.Answer.{Answer}
use Rattle.ledger.specs.Grid.{ACTIVE}
use Rattle.ledger.proofs.BelowLaws.{Fit, hashes-written}
use Rattle.session.specs.Moves.{News, new_all, extra, Stored, stored, store_all}
use Rattle.session.specs.Ready.{Offered}
use Rattle.std.specs.Prelude.{Ok}
use Rattle.form.specs.Answers.{aborted, changed}
use Rattle.session.specs.Turns.{OfferTurn, offer_turn', offer_turn}
use Rattle.ledger.proofs.RoomLaws.{demands-room}
use Rattle.session.proofs.WalkedLaws.{new-short}

-- ---- the walk

abbrev news : List ℕ → List ℕ → List ℕ → Bool → List ℕ → News
news table known I active hs = new_all first_eight (hashes_of table) (hashes_of known) I active hs

-- what it leaves in the room for hashes
pub record Found (table known I : List ℕ) (active : Bool) (hs : List ℕ) (count : ℕ) (bytes : List ℕ) : Type 0 where
  pub judged : (news table known I active hs).fine ≡ true
  pub many : count ≡ length (news table known I active hs).hashes
  pub hashes : hashes_of (take (64 * count) bytes) ≡ (news table known I active hs).hashes
  pub room : length (layouts (demands_of (hashes_of (take (64 * count) bytes)))) ≤ 65476

pub found : (table known I : List ℕ) (active : Bool) (hs : List ℕ) {bytes₀ bytes : List ℕ} {count : ℕ} → Fit 512 hs → length bytes₀ ≡ 65472 → count ≤ 1023
    → Offered (news table known I active hs) (Ok count) bytes bytes₀ → Found table known I active hs count bytes
found table known I active hs {bytes₀} {bytes} {count} short large few walked = record {
  judged = walked.good;
  many = walked.count;
  hashes = gathered;
  room = rw gathered (demands-room (news table known I active hs).hashes (omega (arith, walked.count)));
}
  where
    gathered : hashes_of (take (64 * count) bytes) ≡ (news table known I active hs).hashes
    gathered =
        ap₂ (λ (n : ℕ) (l : List ℕ). hashes_of (take (64 * n) l)) walked.count walked.bytes-are
        ∙ hashes-written (news table known I active hs).hashes bytes₀ (new-short (hashes_of table) (hashes_of known) I active hs short) (omega (arith, walked.count))

-- ---- the ways through

module _ (N : Numbers) (table known I hs : List ℕ) (concerned : ℕ) (R M out : List ℕ) where
  abbrev here : News
  here = news table known I (eqb N.state ACTIVE) hs

  abbrev turn : OfferTurn
  turn = offer_turn N (hashes_of table) (hashes_of known) I hs concerned R M out

  abbrev answer : ℕ → ℕ → Answer
  answer count sent = changed N N.state N.done (N.demanded + count) sent 0

  abbrev taken : OfferTurn
  taken =
      let cs = demands_of here.hashes in
      offer_turn' (answer (length here.hashes) (length (layouts cs))) (store_all N.demanded here.hashes (stored R M)) (over 0 (layouts cs) out)

  abbrev aborts : ℕ → OfferTurn
  aborts n = offer_turn' (aborted n N) (stored R M) out

  decided : {a b : Bool} → here.fine ≡ a → ltb 4096 (concerned + extra first_eight I here.hashes) || ltb 4096 (N.demanded + length here.hashes) ≡ b
      → cond a (cond b (aborts 10) taken) (aborts 7) ≡ turn
  unfolding offer_turn
  decided e f = λ i. cond (sym e i) (cond (sym f i) (aborts 10) taken) (aborts 7)

  pub offer_bad : here.fine ≡ false → aborts 7 ≡ turn
  offer_bad e = decided e refl

  module _ {count : ℕ} {bytes : List ℕ} (went : Found table known I (eqb N.state ACTIVE) hs count bytes) where
    module _ {more : ℕ} (counted : more ≡ extra first_eight I (hashes_of (take (64 * count) bytes))) where
      too_many_lem : {b : Bool} → ltb 4096 (concerned + more) || ltb 4096 (N.demanded + count) ≡ b
          → ltb 4096 (concerned + extra first_eight I here.hashes) || ltb 4096 (N.demanded + length here.hashes) ≡ b
      too_many_lem f =
          ap₂ (λ (x y : ℕ). ltb 4096 (concerned + x) || ltb 4096 (N.demanded + y)) (sym (counted ∙ ap (extra first_eight I) went.hashes)) (sym went.many) ∙ f

      pub offer-over : ltb 4096 (concerned + more) || ltb 4096 (N.demanded + count) ≡ true → aborts 10 ≡ turn
      offer-over f = decided went.judged (too_many_lem f)

      pub offer-taken : {r : Answer} {sent : ℕ} {s : Stored} {out' : List ℕ} → ltb 4096 (concerned + more) || ltb 4096 (N.demanded + count) ≡ false
          → r ≡ answer count sent → s ≡ store_all N.demanded (hashes_of (take (64 * count) bytes)) (stored R M)
          → (sent ≡ 0 + length (layouts (demands_of (hashes_of (take (64 * count) bytes))))) × (out' ≡ over 0 (layouts (demands_of (hashes_of (take (64 * count) bytes)))) out)
          → offer_turn' r s out' ≡ turn
      offer-taken {r} {sent} {s} {out'} f is kept (long, wrote) =
          (λ i. offer_turn' ((is ∙ ap₂ answer went.many size) i) (records i) (written i)) ∙ decided went.judged (too_many_lem f)
        where
          said : hashes_of (take (64 * count) bytes) ≡ here.hashes
          said = went.hashes

          size : sent ≡ length (layouts (demands_of here.hashes))
          size = long ∙ zero-add (length (layouts (demands_of (hashes_of (take (64 * count) bytes))))) ∙ ap (λ (l : List ℕ). length (layouts (demands_of l))) said

          records : s ≡ store_all N.demanded here.hashes (stored R M)
          records = kept ∙ ap (λ (l : List ℕ). store_all N.demanded l (stored R M)) said

          written : out' ≡ over 0 (layouts (demands_of here.hashes)) out
          written = wrote ∙ ap (λ (l : List ℕ). over 0 (layouts (demands_of l)) out) said

-- What a call sends fits its outgoing buffer and is read back message by message; or the hashes of the elements due are.
--
--   Sends          what the buffer holds after a call: messages from its start, or hashes, and behind them what was there
--   call_sends     so it is of every call that is given a good form and its rooms
--   start-sends    and of the start of the sender of a filter
--
-- Assumes nothing.
use mathlib.Core.Path.{◌≡◌, refl, sym, ap, subst, ◌∙◌}
use mathlib.Core.Logic.{◌⊎◌, inl, inr}
use mathlib.Core.Bool.{Bool, true, false, ◌&&◌}
use mathlib.Core.List.{List, [], ◌++◌, append_assoc, append-nil}
use Prim.Native.Nat.{ℕ, ◌+◌, ◌*◌, ◌^◌, ◌≤◌, ◌<◌}
use native.Mathlib.Nat.{zero-add}
use native.Mathlib.Omega.{arith}
use lib.Dec.{leb}
use lib.ListN.{length, take, drop, length-append}
use lib.Seq.{take-append_seam, drop-append_seam}
use borrow.Author.Tests.{leb-true}
use Rattle.bucket.specs.Digits.{packed}
use Rattle.bucket.specs.Lists.{over, part}
use Rattle.bucket.proofs.OverLaws.{open_over, over-length, over-drop}
use Rattle.filter.specs.Calls.{in_range}
use Rattle.filter.specs.Table.{hashes_of, is_table}
use Rattle.filter.proofs.SetLaws.{and_r, not_in_nil}
use Rattle.std.proofs.Common.{Ok}
use Rattle.message.specs.Layout.{Content}
use Rattle.message.specs.Walking.{whole_of}
use Rattle.message.specs.Writing.{layouts}
use Rattle.message.proofs.BackLaws.{AllGoodContents, Walks}
use Rattle.message.proofs.ThroughLaws.{walked_whole}
use Rattle.message.proofs.WholeLaws.{packed-nil, whole_length}
use Rattle.message.proofs.RoundLaws.{hashes-below}
use Rattle.ledger.specs.Session.{Outcome, ids_of, own_filter}
use Rattle.ledger.specs.Calls.{Given, Left, good_form, has_rooms, table_of, hash_given, session_of, step_call, Started, start_sender}
use Rattle.ledger.proofs.BookLaws.{Table, Form, table_of_lem}
use Rattle.ledger.proofs.FilterRoomLaws.{own_filter_room}
use Rattle.ledger.proofs.BelowLaws.{Fit, fit_of, hashes-back}
use Rattle.union.proofs.CallGiven.{given-good, given-form, Lent, table-short, given_narrow, rooms_of_lem}
use Rattle.union.proofs.Called.{heard, heard_either, call_answer}
use Rattle.union.proofs.SentLaws.{good-read, own-good, ids-fit, ids-few, sent-good}
use Rattle.union.proofs.SentRooms.{Fits, step_fits}

-- a buffer after a call that wrote messages, and hashes behind them, from its start: `sent` bytes of messages, `due` hashes
pub record Sends (sent due : ℕ) (before after : List ℕ) (cs : List Content) (hs : List ℕ) : Type 0 where
  pub fits : sent + 64 * due ≤ 295008
  pub one : (due ≡ 0) ⊎ (sent ≡ 0)
  pub long : length after ≡ length before
  pub bytes : take sent after ≡ layouts cs
  pub walks : Walks (take sent after) 0 cs
  pub whole : whole_of (take sent after) ≡ Ok (length cs)
  pub hashes : hashes_of (part sent (64 * due) after) ≡ hs
  pub behind : drop (sent + 64 * due) after ≡ drop (sent + 64 * due) before

-- messages in range and hashes of 512 bits, written at the start of a buffer with room for them
module _ (cs : List Content) (hs out : List ℕ) (good : AllGoodContents cs) (short : Fit 512 hs) (fit : length (layouts cs) + 64 * length hs ≤ 295008)
    (one : (hs ≡ []) ⊎ (cs ≡ [])) (room : 295008 ≤ length out) where
  abbrev bytes : List ℕ
  bytes = layouts cs ++ packed 512 hs

  many : length bytes ≡ length (layouts cs) + 64 * length hs
  many = length-append (layouts cs) (packed 512 hs) ∙ ap (λ (n : ℕ). length (layouts cs) + n) (whole_length 64 hs)

  apart : over 0 bytes out ≡ layouts cs ++ (packed 512 hs ++ drop (0 + length bytes) out)
  apart = open_over 0 bytes out ∙ append_assoc (layouts cs) (packed 512 hs) (drop (0 + length bytes) out)

  messages-first : take (length (layouts cs)) (over 0 bytes out) ≡ layouts cs
  messages-first = ap (take (length (layouts cs))) apart ∙ take-append_seam (layouts cs) _

  hashes-behind : part (length (layouts cs)) (64 * length hs) (over 0 bytes out) ≡ packed 512 hs
  hashes-behind =
      ap (part (length (layouts cs)) (64 * length hs)) apart
      ∙ ap (take (64 * length hs)) (drop-append_seam (layouts cs) _)
      ∙ ap (λ (n : ℕ). take n (packed 512 hs ++ drop (0 + length bytes) out)) (sym (whole_length 64 hs))
      ∙ take-append_seam (packed 512 hs) _

  either_none : (hs ≡ []) ⊎ (cs ≡ []) → (length hs ≡ 0) ⊎ (length (layouts cs) ≡ 0)
  unfolding layouts
  either_none (inl e) = inl (ap length e)
  either_none (inr e) = inr (ap (λ (l : List Content). length (layouts l)) e)

  written : Sends (length (layouts cs)) (length hs) out (over 0 bytes out) cs hs
  written = record {
    fits = fit;
    one = either_none one;
    long = over-length 0 out bytes (omega (arith, room, many, fit));
    bytes = messages-first;
    walks = subst (λ (m : List ℕ). Walks m 0 cs) (sym messages-first) (good-read cs good);
    whole = ap whole_of messages-first ∙ walked_whole cs good;
    hashes = ap hashes_of hashes-behind ∙ hashes-back hs short;
    behind = subst (λ (n : ℕ). drop n (over 0 bytes out) ≡ drop n out) (zero-add (length bytes) ∙ many) (over-drop 0 out bytes (omega arith));
  }

  pub sends : (sent due : ℕ) (after : List ℕ) → sent ≡ length (layouts cs) → due ≡ length hs → after ≡ over 0 bytes out → Sends sent due out after cs hs
  sends sent due after e f g =
      subst (λ (n : ℕ). Sends n due out after cs hs) (sym e)
      (subst (λ (n : ℕ). Sends (length (layouts cs)) n out after cs hs) (sym f)
      (subst (λ (m : List ℕ). Sends (length (layouts cs)) (length hs) out m cs hs) (sym g) written))

-- ---- a call

module _ (derive : ℕ → ℕ) (bound : (h : ℕ) → h < 2 ^ 512 → derive h < 2 ^ 64) (G : Given) (form : good_form derive G ≡ true) (rooms : has_rooms G ≡ true)
    (lent : Lent G) where
  abbrev o : Outcome
  o = heard derive G

  abbrev l : Left
  l = step_call derive G

  in_form : Form derive (table_of G) (session_of derive G)
  in_form = given-form derive G form (rooms_of_lem G rooms).ledger

  heard-fits : Fits o
  unfolding layouts
  heard-fits =
      heard_either derive G lent.message Fits
      (λ c g. step_fits derive (table_of G) (given-good derive G form) (hash_given G) (session_of derive G) c in_form g)
      (omega arith, λ x e. absurd (not_in_nil x e), inl refl)

  heard-good : AllGoodContents o.sent
  heard-good =
      heard_either derive G lent.message (λ (p : Outcome). AllGoodContents p.sent)
      (λ c g. sent-good derive bound (table_of G) (given-good derive G form) (table-short G) (hash_given G) (session_of derive G) c in_form
      (given_narrow derive G lent) g)
      tt

  pub call_sends : Sends l.answer.sent l.answer.due G.out l.out o.sent o.due
  call_sends =
      let (sent, due, out) = call_answer derive bound G form rooms lent in
      sends o.sent o.due G.out heard-good heard-fits.1 heard-fits.0 heard-fits.2 (leb-true 295008 (length G.out) (rooms_of_lem G rooms).out)
      l.answer.sent l.answer.due l.out sent due out

-- ---- the start of the sender of a filter

module _ (derive : ℕ → ℕ) (bound : (h : ℕ) → h < 2 ^ 512 → derive h < 2 ^ 64) (size salt : ℕ) (table marks out : List ℕ) where
  abbrev a : Started
  a = start_sender derive size salt table marks out

  abbrev cs : List Content
  cs = own_filter (ids_of derive (hashes_of table)) size salt

  filter_sends : is_table derive table ≡ true → in_range size salt ≡ true → 295008 ≤ length out
      → Sends (length (layouts cs)) 0 out (over 0 (layouts cs) out) cs []
  filter_sends e range room =
      let t : Table derive (hashes_of table) = table_of_lem derive table e in
      let short : Fit 512 (hashes_of table) = fit_of 512 (hashes_of table) (hashes-below table) in
      let few : length (ids_of derive (hashes_of table)) ≤ 4096 = ids-few derive bound (hashes_of table) t short in
      let own : length (layouts cs) ≤ 65568 = own_filter_room (ids_of derive (hashes_of table)) size salt few range in
      sends cs [] out (own-good (ids_of derive (hashes_of table)) size salt few range (ids-fit derive bound (hashes_of table) t short))
      (λ x k. absurd (not_in_nil x k)) (omega (arith, own)) (inl refl) room (length (layouts cs)) 0 (over 0 (layouts cs) out) refl refl
      (ap (λ (m : List ℕ). over 0 m out) (sym (append-nil (layouts cs)) ∙ ap (λ (m : List ℕ). layouts cs ++ m) (sym (packed-nil 64))))

  pub start-sends : a.answer.refusal ≡ 0 → Sends a.answer.sent a.answer.due out a.out cs []
  unfolding start_sender
  start-sends = go (is_table derive table) (in_range size salt) (leb 8192 (length marks) && leb 295008 (length out)) refl refl refl
    where
      go : (x y w : Bool) → is_table derive table ≡ x → in_range size salt ≡ y → leb 8192 (length marks) && leb 295008 (length out) ≡ w
          → a.answer.refusal ≡ 0 → Sends a.answer.sent a.answer.due out a.out cs []
      go true true true e f r = rw (e, f, r) (λ z. filter_sends e f (leb-true 295008 (length out) (and_r (leb 8192 (length marks)) _ r)))
      go true true false e f r = rw (e, f, r) (λ z. absurd (omega (arith, z)))
      go true false w e f r = rw (e, f) (λ z. absurd (omega (arith, z)))
      go false y w e f r = rw e (λ z. absurd (omega (arith, z)))

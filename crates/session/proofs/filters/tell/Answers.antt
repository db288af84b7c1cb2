-- `filters::tell` meets its contract: the hashes gathered are those of ours, and the messages follow one another. Assumes nothing.
use mathlib.Core.Path.{◌≡◌, sym, ap, ◌∙◌}
use mathlib.Core.List.{List, ◌++◌}
use Prim.Native.Nat.{ℕ, ◌+◌, ◌*◌}
use native.Mathlib.Omega.{arith}
use lib.ListN.{length, take, replicate, length-replicate}
use lib.Seq.{length-take-le}
use Rattle.bucket.specs.Lists.{over}
use Rattle.filter.specs.Table.{first_eight, hashes_of, ids_of}
use Rattle.filter.proofs.TableLaws.{hashes-length}
use Rattle.message.specs.Writing.{layouts, inquiries_of, offers_of}
use Rattle.session.specs.Ready.{Sent}
use Rattle.session.specs.Turns.{hashes_at}
use Rattle.ledger.proofs.RoomLaws.{inquiries_room, offers-room}
use Rattle.session.proofs.OpenTurns.{sent-first, sent_then, offered-few, gathered-back}
use Rattle.session.proofs.filters.tell.Goals as goal
use Rattle.session.proofs.filters.tell.Goals.{After-send_offers}

-- the hashes of ours, and the messages that say them and the IDs
abbrev hashes_of_ours : (c : After-send_offers) → List ℕ
hashes_of_ours c = let a = c.args in
    hashes_at (hashes_of a.table.now) (ids_of first_eight a.table.now) a.ours.now

listed : (c : After-send_offers)
    → Sent (inquiries_of c.args.salt c.args.theirs.now ++ offers_of (hashes_of_ours c)) c.args.out.now c.send_offers.new.out c.send_offers.result
listed c = let ids = c.args.theirs.now in
    let there = gathered-back c.args.table.now c.args.ours.now (replicate 262144 0)
    (omega (arith, c.requires.1, length-replicate {A = ℕ} 262144 0)) c.offer_all.ensures.1 in
    sent_then (offers_of (hashes_of_ours c)) (sent-first (inquiries_of c.args.salt ids) c.send_inquiries-next.ensures.0 c.send_inquiries-next.ensures.1)
    (omega (arith, inquiries_room c.args.salt ids c.requires.2, offers-room (hashes_of_ours c) (offered-few c.args.table.now c.args.ours.now c.requires.1), c.requires.5))
    (c.send_offers.ensures.0 ∙ ap (λ (l : List ℕ). c.send_inquiries-next.result + length (layouts (offers_of l))) there)
    (c.send_offers.ensures.1 ∙ ap (λ (l : List ℕ). over c.send_inquiries-next.result (layouts (offers_of l)) c.send_inquiries-next.new.out) there)

pub send_inquiries-next-requires : goal.send_inquiries-next-requires
send_inquiries-next-requires c = (c.requires.3, omega (arith, inquiries_room c.args.salt c.args.theirs.now c.requires.2, c.requires.5))

pub send_offers-requires : goal.send_offers-requires
send_offers-requires c = let bytes = take (64 * length c.args.ours.now) c.offer_all.new.hashes in
    let whole : 64 * length c.args.ours.now ≡ length bytes = sym (length-take-le _ c.offer_all.new.hashes (omega (arith, c.requires.1, c.offer_all.auto.hashes, length-replicate {A = ℕ} 262144 0))) in (
      omega (arith, whole),
      omega (
        arith,
        c.send_inquiries-next.ensures.0,
        c.send_inquiries-next.auto.out,
        inquiries_room c.args.salt c.args.theirs.now c.requires.2,
        offers-room (hashes_of bytes) (omega (arith, hashes-length bytes, whole, c.requires.1)),
        c.requires.5,
      ),
    )

pub returns : goal.returns
returns c = (c.offer_all.ensures.0, c.insert_ids.ensures, listed (goal.at.returns c).After-send_offers)

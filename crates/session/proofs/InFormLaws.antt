-- Where a step is given its form, the functions of messages that are no slices have what they count on; so they have by the message's length. Assumes nothing.
use mathlib.Core.Path.{◌≡◌, ap, ◌∙◌}
use mathlib.Core.List.{List}
use Prim.Native.Nat.{ℕ, ◌+◌, ◌*◌, ◌≤◌}
use native.Mathlib.Omega.{arith}
use lib.ListN.{length, take}
use Rattle.std.proofs.Common.{Some}
use Rattle.message.specs.declared.kinds.Message.{Message}
use Rattle.message.specs.declared.kinds.Message.TheVariants.{Inquiry, Offer, Demand, Done}
use Rattle.message.specs.Walking.{exactly_one}
use Rattle.ledger.specs.declared.numbers.Numbers.{Numbers}
use Rattle.ledger.specs.Calls.{Given}
use Rattle.form.specs.declared.tallying.Tally.{Tally}
use Rattle.session.specs.Judged.{InForm}
use Rattle.session.specs.Ready.{Kept}
use Rattle.ledger.proofs.Sound.{Sound}
use Rattle.ledger.proofs.GivenLaws.{given-table, given-known, given-few, given-rooms}
use Rattle.form.proofs.TallyLaws.{tally_given, few_of}
use Rattle.session.proofs.SaidLaws.{inquiry-room, offer-room, offer-few, demand-room, demand-few, done-room}

pub in_form : (G : Given) → Sound G → (T : Tally) → Some T ≡ tally_given G → InForm G.numbers G.table G.records G.marks G.inquired G.hash G.out T
in_form G s T has =
    let few = given-few G s in
    let room = given-rooms G s in
    record {
      kept = record { table-good = given-table G s; known-good = given-known G s; marks-room = room.1 };
      demanded-few = few.0;
      inquired-few = few.1;
      records-room = room.0;
      inquired-room = room.2;
      hash-room = room.4;
      out-room = room.3;
      concerned-few = (few_of G s T has).0;
      came-few = (few_of G s T has).1;
    }

module _ (N : Numbers) (table R M I hash bs out : List ℕ) (m : Message) (T : Tally) (f : InForm N table R M I hash out T) (read : exactly_one bs ≡ Some m) where
  records_hold : 64 * N.demanded ≤ length R
  records_hold = omega (arith, f.records-room, f.demanded-few)

  pub inquiry-asks : (salt n : ℕ) → m ≡ Inquiry salt n
      → Kept table (take (64 * N.demanded) R) M × (64 * N.demanded ≤ length R) × (N.demanded ≤ 4096) × (8 + 8 * n ≤ length bs) × (295008 ≤ length out)
  inquiry-asks salt n e = (f.kept, records_hold, f.demanded-few, inquiry-room bs salt n (read ∙ ap Some e), f.out-room)

  pub offer-asks : (n : ℕ) → m ≡ Offer n
      → Kept table (take (64 * N.demanded) R) M × (262144 ≤ length R) × (N.demanded ≤ 4096) × (N.inquired ≤ length I) × (N.inquired ≤ 4096)
      × (T.concerned ≤ 4096) × (4 + 64 * n ≤ length bs) × (n ≤ 1023) × (295008 ≤ length out)
  offer-asks n e = (
    f.kept,
    omega (arith, f.records-room),
    f.demanded-few,
    omega (arith, f.inquired-few, f.inquired-room),
    f.inquired-few,
    f.concerned-few,
    offer-room bs n (read ∙ ap Some e),
    offer-few bs n (read ∙ ap Some e),
    f.out-room,
  )

  pub demand-asks : (n : ℕ) → m ≡ Demand n
      → Kept table (take (64 * N.demanded) R) M × (64 * N.demanded ≤ length R) × (N.demanded ≤ 4096) × (4 + 64 * n ≤ length bs) × (n ≤ 1023)
      × (295008 ≤ length out)
  demand-asks n e = (f.kept, records_hold, f.demanded-few, demand-room bs n (read ∙ ap Some e), demand-few bs n (read ∙ ap Some e), f.out-room)

  pub done-asks : m ≡ Done
      → Kept table (take (64 * N.demanded) R) M × (262208 ≤ length R) × (N.demanded ≤ 4096) × (68 ≤ length bs) × (295008 ≤ length out)
  done-asks e = (f.kept, f.records-room, f.demanded-few, done-room bs (read ∙ ap Some e), f.out-room)

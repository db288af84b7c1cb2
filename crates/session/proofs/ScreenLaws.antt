-- A message that the grid does not admit is refused as the step refuses it. Assumes nothing.
use mathlib.Core.Path.{◌≡◌, refl}
use mathlib.Core.Bool.{false, true≢false}
use Rattle.std.proofs.Common.{Some}
use Rattle.filter.specs.Table.{first_eight}
use Rattle.message.specs.declared.kinds.Message.{Message}
use Rattle.message.specs.declared.kinds.Message.TheVariants.{Ibf, IbfLast, Inquiry, Offer, Demand, Element, Done}
use Rattle.message.specs.Layout.{Content}
use Rattle.message.specs.Laying.{is_slice}
use Rattle.message.specs.Reading.{content}
use Rattle.ledger.specs.Grid.{kind_of, entry}
use Rattle.ledger.specs.Session.{refusal}
use Rattle.ledger.specs.Session as Session
use Rattle.ledger.specs.Calls.{Given, session_of, step_on, step_said}
use Rattle.ledger.proofs.GridLaws.{admitted_other}
use Rattle.ledger.proofs.Sound.{Sound}
use Rattle.form.specs.Answers.{aborted}
use Rattle.session.specs.Steps.{column_of}
use Rattle.session.proofs.TurnLaws.{session_in, leaves, halted_tie}

module _ (G : Given) (s : Sound G) where
  untimely : (c : Content) → Session.is_slice c ≡ false → entry G.numbers.state (kind_of c) ≡ false
      → leaves G (aborted 5 G.numbers) G.records G.marks G.out ≡ step_on first_eight c G
  untimely c k a = halted_tie G s c 5 refl refl (unfold refusal session_of in rw (admitted_other (session_in G) c k, a))

  pub screened_tie : (m : Message) → is_slice m ≡ false → entry G.numbers.state (column_of m) ≡ false
      → leaves G (aborted 5 G.numbers) G.records G.marks G.out ≡ step_said first_eight (Some m) G
  unfolding step_said content
  screened_tie (Ibf t) z = absurd (true≢false z)
  screened_tie (IbfLast t) z = absurd (true≢false z)
  screened_tie (Inquiry salt n) z = untimely (content (Inquiry salt n) G.message) refl
  screened_tie (Offer n) z = untimely (content (Offer n) G.message) refl
  screened_tie (Demand n) z = untimely (content (Demand n) G.message) refl
  screened_tie (Element n) z = untimely (content (Element n) G.message) refl
  screened_tie Done z = untimely (content Done G.message) refl

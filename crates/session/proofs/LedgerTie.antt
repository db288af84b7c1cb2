-- The messages that are no slices: what each one's function leaves, once the grid admits it, is what the step says of it. Assumes nothing.
use mathlib.Core.Path.{◌≡◌, ap, ◌∙◌}
use mathlib.Core.Bool.{true}
use mathlib.Core.List.{List}
use Prim.Native.Nat.{ℕ, ◌*◌}
use lib.ListN.{take, drop}
use Rattle.std.proofs.Common.{Some}
use Rattle.bucket.specs.Digits.{unpacked}
use Rattle.bucket.specs.Lists.{part}
use Rattle.filter.specs.Table.{first_eight}
use Rattle.message.specs.declared.kinds.Message.TheVariants.{Inquiry, Offer, Demand, Element, Done}
use Rattle.message.specs.Layout.{Content}
use Rattle.message.specs.Reading.{content}
use Rattle.message.specs.Walking.{exactly_one}
use Rattle.ledger.specs.declared.numbers.Answer.{Answer}
use Rattle.ledger.specs.Grid.{entry}
use Rattle.ledger.specs.Calls.{Given, table_of, hash_given, step_on, step_said}
use Rattle.ledger.proofs.Sound.{Sound}
use Rattle.form.specs.declared.tallying.Tally.{Tally}
use Rattle.form.proofs.TallyLaws.{tally_given, concerned_of, unmet_of, last_of, came_of}
use Rattle.session.specs.Moves.{stored}
use Rattle.session.specs.Steps.{DoneSteps, ElementSteps}
use Rattle.session.specs.Turns.{MarkTurn, mark_turn, inquiry_turn, demand_turn, OfferTurn, offer_turn, offer_turn'}
use Rattle.session.proofs.SaidLaws.{items_short, inquiry-said, offer-said, demand-said, done-said}
use Rattle.session.proofs.TurnLaws.{demanded_in, leaves}
use Rattle.session.proofs.InquiryTie.{inquiry-tie}
use Rattle.session.proofs.DemandTie.{demand-tie}
use Rattle.session.proofs.OfferTie.{offer_tie}

module _ (G : Given) (s : Sound G) {r : Answer} {out' : List ℕ} where
  pub inquiry-steps : {M' : List ℕ} (salt n : ℕ) → exactly_one G.message ≡ Some (Inquiry salt n) → entry G.numbers.state 2 ≡ true
      → mark_turn r M' out' ≡ inquiry_turn G.numbers (table_of G) (demanded_in G) salt (unpacked 64 n (part 8 (8 * n) G.message)) G.marks G.out
      → leaves G r G.records M' out' ≡ step_said first_eight (Some (Inquiry salt n)) G
  unfolding step_said
  inquiry-steps salt n e timely is =
      ap (λ (x : MarkTurn). leaves G x.answer G.records x.marks x.out) is
      ∙ inquiry-tie G s timely salt (unpacked 64 n (part 8 (8 * n) G.message))
      ∙ ap (λ (c : Content). step_on first_eight c G) (inquiry-said G.message salt n e)

  pub demand-steps : {M' : List ℕ} (n : ℕ) → exactly_one G.message ≡ Some (Demand n) → entry G.numbers.state 4 ≡ true
      → mark_turn r M' out' ≡ demand_turn G.numbers (table_of G) (demanded_in G) (unpacked 512 n (part 4 (64 * n) G.message)) G.marks G.out
      → leaves G r G.records M' out' ≡ step_said first_eight (Some (Demand n)) G
  unfolding step_said
  demand-steps n e timely is =
      ap (λ (x : MarkTurn). leaves G x.answer G.records x.marks x.out) is
      ∙ demand-tie G s timely (unpacked 512 n (part 4 (64 * n) G.message))
      ∙ ap (λ (c : Content). step_on first_eight c G) (demand-said G.message n e)

  pub offer-steps : {R' M' : List ℕ} (T : Tally) → Some T ≡ tally_given G → (n : ℕ) → exactly_one G.message ≡ Some (Offer n) → entry G.numbers.state 3 ≡ true
      → offer_turn' r (stored R' M') out'
      ≡ offer_turn G.numbers (table_of G) (demanded_in G) (take G.numbers.inquired G.inquired) (unpacked 512 n (part 4 (64 * n) G.message))
      T.concerned G.records G.marks G.out
      → leaves G r R' M' out' ≡ step_said first_eight (Some (Offer n)) G
  unfolding step_said
  offer-steps T counted n e timely is =
      ap (λ (x : OfferTurn). leaves G x.answer x.stored.records x.stored.marks x.out) is
      ∙ offer_tie G s timely (unpacked 512 n (part 4 (64 * n) G.message)) (items_short n (part 4 (64 * n) G.message)) T.concerned
      (concerned_of G s T counted)
      ∙ ap (λ (c : Content). step_on first_eight c G) (offer-said G.message n e)

  -- the tally counts what these functions ask for
  pub element-steps : {M' : List ℕ} (T : Tally) → Some T ≡ tally_given G → (n : ℕ) → entry G.numbers.state 5 ≡ true
      → ElementSteps G.numbers G.table G.records G.marks G.hash G.out T.came T.unmet r M' out'
      → leaves G r G.records M' out' ≡ step_said first_eight (Some (Element n)) G
  unfolding step_said content
  element-steps T is n timely steps =
      steps G.inquired G.message G.ours G.theirs (drop 4 G.message) G.columns s timely
      (last_of G s T is (hash_given G)) (came_of G s T is (hash_given G))

  pub done-steps : {R' : List ℕ} (T : Tally) → Some T ≡ tally_given G → exactly_one G.message ≡ Some Done → entry G.numbers.state 6 ≡ true
      → DoneSteps G.numbers G.table G.records G.marks G.message G.out T.unmet r R' out'
      → leaves G r R' G.marks out' ≡ step_said first_eight (Some Done) G
  unfolding step_said
  done-steps T is e timely steps =
      steps G.inquired G.hash G.ours G.theirs G.columns s timely (unmet_of G s T is)
      ∙ ap (λ (c : Content). step_on first_eight c G) (done-said G.message e)

-- `stepping::step` meets its contract: what is refused before the message is read is the definition's first refusal; behind that everything is in its form,
-- and what the function of the message leaves is what the definition says of it. Assumes nothing.
use mathlib.Core.Path.{◌≡◌, refl, sym, ap, ap₂, ◌∙◌}
use mathlib.Core.Bool.{Bool, false}
use Rattle.std.proofs.Common.{rules}
use Rattle.std.proofs.Common.{Option, Some}
use Rattle.bucket.specs.Columns.{columns}
use Rattle.filter.specs.Table.{first_eight}
use Rattle.message.specs.declared.kinds.Message.{Message}
use Rattle.message.specs.declared.kinds.Slice.{Slice}
use Rattle.message.specs.declared.kinds.Message.TheVariants.{Ibf, IbfLast, Inquiry, Offer, Demand, Element, Done}
use Rattle.message.specs.Laying.{is_slice}
use Rattle.message.specs.Walking.{exactly_one}
use Rattle.ledger.specs.declared.numbers.Answer.{Answer}
use Rattle.ledger.specs.Calls.{Given, given, left, step_call, step_said}
use Rattle.ledger.proofs.Sound.{Sound}
use Rattle.std.specs.Option.{is_some}
use Rattle.std.proofs.Common.{Some}
use Rattle.form.specs.Answers.{early_of}
use Rattle.form.proofs.TallyLaws.{tally_given}
use Rattle.session.proofs.StepLaws.{early_in, refused_so, early-refused, said, sound, tally_sound}
use Rattle.session.specs.Turns.{settled}
use Rattle.session.proofs.InFormLaws.{in_form}
use Rattle.session.proofs.LastGranted.{slice-lays, last_ready}
use Rattle.session.proofs.SaidTie.{slice-said, last_said}
use Rattle.session.proofs.stepping.step.Goals as goal
use Rattle.session.proofs.stepping.step.Goals.{After-admit, In-Ok, in-Ibf, in-IbfLast, in_default-m}

-- what the step is given, where the first refusal is known, and behind it
abbrev given_first : After-admit → Given
given_first c = let a = c.args in given a.numbers a.table.now a.records.now a.marks.now a.inquired.now (columns a.ids.now a.hashes.now a.counts.now) a.ours.now a.theirs.now a.hash.now a.message.now a.out.now

abbrev given1 : In-Ok → Given
given1 c = let a = c.args in given a.numbers a.table.now a.records.now a.marks.now a.inquired.now (columns a.ids.now a.hashes.now a.counts.now) a.ours.now a.theirs.now a.hash.now a.message.now a.out.now

first_is : (c : After-admit) → early_of (is_some c.judge-judged.result) c.has_room-roomy.result c.args.numbers.state ≡ early_in (given_first c)
first_is c = ap₂ (λ (g r : Bool). early_of g r c.args.numbers.state) (ap is_some c.judge-judged.ensures.1) c.has_room-roomy.ensures

none_first : (c : In-Ok) → early_in (given1 c) ≡ 0
none_first c = sym (c.in-Ok.ensures.refused ∙ first_is (goal.at.In-Ok c).After-admit)

sound-at : (c : In-Ok) → Sound (given1 c)
sound-at c = sound (given1 c) (none_first c) (λ i. search rules) (λ i. search rules) (λ i. search rules)

said_at : (c : In-Ok) → step_said first_eight (exactly_one (given1 c).message) (given1 c) ≡ step_call first_eight (given1 c)
said_at c = said (given1 c) (none_first c)

-- the tally is the definition's
tally_at : (c : In-Ok) → Some c.in-Ok.tally ≡ tally_given (given1 c)
tally_at c = sym c.in-Ok.ensures.taken ∙ c.judge-judged.ensures.1 ∙ tally_sound (given1 c) (none_first c)

-- the kinds but these two are no slices
other : (m : Message) → ((t : Slice) → m ≡ Ibf t → ⊥) → ((t : Slice) → m ≡ IbfLast t → ⊥) → is_slice m ≡ false
other (Ibf t) h k = absurd (h t refl)
other (IbfLast t) h k = absurd (k t refl)
other (Inquiry salt n) h k = refl
other (Offer n) h k = refl
other (Demand n) h k = refl
other (Element n) h k = refl
other Done h k = refl

pub returns-in-Err : goal.returns-in-Err
returns-in-Err c = let G = given_first (goal.at.returns-in-Err c).After-admit in
    ap (λ (a : Answer). left a G.records G.marks G.inquired G.columns G.ours G.theirs G.out) c.refuse.ensures
    ∙ early-refused G (c.in-Err.ensures.refused ∙ first_is (goal.at.returns-in-Err c).After-admit) (refused_so c.in-Err.why)

pub returns-in_default : goal.returns-in_default
unfolding step_said
returns-in_default c = let o = (goal.at.returns-in_default c).In-Ok in
    let G = given1 o in
    ap (λ (a : Answer). left a G.records G.marks G.inquired G.columns G.ours G.theirs G.out) c.abort.ensures
    ∙ ap (λ (m : Option Message). step_said first_eight m G) (sym c.in_default.is ∙ c.read.ensures)
    ∙ said_at o

pub on_slice-taken-requires : goal.on_slice-taken-requires
on_slice-taken-requires c = let o = (goal.at.on_slice-taken-requires c).In-Ok in
    slice-lays (given1 o) (sound-at o) (Ibf c.in-Ibf.slice) (sym c.read.ensures ∙ c.in-Some.is ∙ ap Some c.in-Ibf.is) refl

pub on_last-taken-requires : goal.on_last-taken-requires
on_last-taken-requires c = let o = (goal.at.on_last-taken-requires c).In-Ok in
    last_ready (given1 o) (sound-at o) c.in-IbfLast.slice (sym c.read.ensures ∙ c.in-Some.is ∙ ap Some c.in-IbfLast.is)

pub on_ledger-taken-requires : goal.on_ledger-taken-requires
on_ledger-taken-requires c = let o = (goal.at.on_ledger-taken-requires c).In-Ok in
    let G = given1 o in (
      in_form G (sound-at o) c.in-Ok.tally (tally_at o),
      sym c.read.ensures ∙ c.in-Some.is,
      other c.in-Some.m c.in_default-m.not-Ibf c.in_default-m.not-IbfLast,
    )

pub returns : goal.returns
returns c = let o = (goal.at.returns c).In-Ok in
    let G = given1 o in
    let N = c.args.numbers in
    let told : c.unwrap_or_else.result ≡ settled N c.match-m.taken = search rules in
    elim c.match-m.branch [
      | in-Ibf w ↦
          (λ i. left ((told ∙ ap (settled N) w.taken-is) i) (w.records-is i) (w.marks-is i) (w.inquired-is i)
          (columns (w.ids-is i) (w.hashes-is i) (w.counts-is i)) (w.ours-is i) (w.theirs-is i) (w.out-is i))
          ∙ slice-said G (sound-at o) w.in-Ibf.slice (sym c.read.ensures ∙ c.in-Some.is ∙ ap Some w.in-Ibf.is) w.on_slice-taken.ensures
          ∙ said_at o
      | in-IbfLast w ↦
          (λ i. left ((told ∙ ap (settled N) w.taken-is) i) (w.records-is i) (w.marks-is i) (w.inquired-is i)
          (columns (w.ids-is i) (w.hashes-is i) (w.counts-is i)) (w.ours-is i) (w.theirs-is i) (w.out-is i))
          ∙ last_said G (sound-at o) w.in-IbfLast.slice (sym c.read.ensures ∙ c.in-Some.is ∙ ap Some w.in-IbfLast.is) w.on_last-taken.ensures
          ∙ said_at o
      | in_default-m w ↦
          (λ i. left ((told ∙ ap (settled N) w.taken-is) i) (w.records-is i) (w.marks-is i) (w.inquired-is i)
          (columns (w.ids-is i) (w.hashes-is i) (w.counts-is i)) (w.ours-is i) (w.theirs-is i) (w.out-is i))
          ∙ w.on_ledger-taken.ensures G.ours G.theirs G.columns (sound-at o) (tally_at o)
          ∙ ap (λ (x : Option Message). step_said first_eight x G) (sym c.in-Some.is ∙ c.read.ensures)
          ∙ said_at o
    ]

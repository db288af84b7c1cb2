-- `session::ends::on_element` meets its contract: each return leaves what the step on an ELEMENT does. Assumes nothing.
use mathlib.Core.Path.{◌≡◌, sym, ap, ◌∙◌}
use Prim.Native.Nat.{ℕ, ◌<◌}
use native.Mathlib.Omega.{arith}
use Rattle.std.specs.Prelude.{Option, Some, None, Result, Ok, Err, ok_or}
use Rattle.std.proofs.Common.{rules}
use Rattle.filter.specs.declared.answers.Refusal.{Refusal}
use Rattle.filter.specs.declared.answers.Refusal.TheVariants.{Breach}
use Rattle.ledger.specs.declared.numbers.Answer.{Answer}
use Rattle.ledger.specs.Calls.{given}
use Rattle.session.specs.Ready.{IsPlace}
use Rattle.session.specs.Turns.{settled}
use Rattle.session.proofs.SettledLaws.{handed_on}
use Rattle.session.proofs.TurnLaws.{leaves}
use Rattle.session.proofs.ElementLaws.{element-wanted, last_now, says_now, element_unknown, element_quiet}
use Rattle.session.proofs.ends.on_element.Goals as goal

-- an unmet place, by what `ok_or` makes of it
nowhere : (found : Option ℕ) {made : Result ℕ Refusal} {q : ℕ} {why : Refusal} → IsPlace found q → made ≡ ok_or found Breach → made ≡ Err why
    → (8192 ≡ q) × (why ≡ Breach)
nowhere None p e is = let said = sym is ∙ e in (sym p, search rules)
nowhere (Some n) p e is = let said = sym is ∙ e in search rules

somewhere : (found : Option ℕ) {made : Result ℕ Refusal} {p q : ℕ} → IsPlace found q → made ≡ ok_or found Breach → made ≡ Ok p → (p ≡ q) × (p < 8192)
somewhere None w e is = let said = sym is ∙ e in search rules
somewhere (Some n) {p = p} w e is = let said = sym is ∙ e in
    let same : p ≡ n = search rules in
    (same ∙ w.0, rw (sym same) at w.1)

pub returns-in_err-p : goal.returns-in_err-p
returns-in_err-p c = λ I message ours theirs bytes cols s timely count all.
    let a = c.args in
    let G = given a.numbers a.table.now a.records.now a.marks.now I cols ours theirs a.hash.now message a.out.now in
    let (none, why) = nowhere c.unmet_place.result c.unmet_place.ensures c.ok_or.ensures.value c.in_err-p.was in
    ap (λ (r : Result Answer Refusal). leaves G (settled a.numbers r) G.records G.marks G.out) (handed_on c.from_residual.ensures why)
    ∙ element_unknown G s timely bytes none (omega arith)

pub returns-then-all-last : goal.returns-then-all-last
returns-then-all-last c = λ I message ours theirs bytes cols s timely count all.
    let a = c.args in
    let G = given a.numbers a.table.now a.records.now a.marks.now I cols ours theirs a.hash.now message a.out.now in
    let place = somewhere c.unmet_place.result c.unmet_place.ensures c.ok_or.ensures.value c.in_ok-p.was in
    let (u, at) = element-wanted G s place.0 place.1 in
    c.last_element.ensures I message ours theirs bytes cols s timely u at
    (last_now G s u a.unmet count) (says_now G s u a.unmet count a.came all ∙ c.if-all-last.true)

pub returns : goal.returns
returns c = λ I message ours theirs bytes cols s timely count all.
    let a = c.args in
    let G = given a.numbers a.table.now a.records.now a.marks.now I cols ours theirs a.hash.now message a.out.now in
    let place = somewhere c.unmet_place.result c.unmet_place.ensures c.ok_or.ensures.value c.in_ok-p.was in
    let (u, at) = element-wanted G s place.0 place.1 in
    element_quiet G s timely bytes u at a.unmet a.came count all c.if-all-last.false c.changed.ensures

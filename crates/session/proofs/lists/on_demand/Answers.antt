-- `lists::on_demand` meets its contract: each return is one way of the demand's turn. Assumes nothing.
use mathlib.Core.Path.{sym, ap, ◌∙◌}
use mathlib.Core.List.{List}
use Prim.Native.Nat.{ℕ, ◌*◌}
use native.Mathlib.Omega.{arith}
use Rattle.std.proofs.Common.{rules}
use lib.ListN.{length}
use lib.Seq.{length-take-le}
use Rattle.bucket.specs.Lists.{over, part}
use Rattle.bucket.proofs.PackedLaws.{unpacked-length}
use Rattle.std.specs.Prelude.{Result}
use Rattle.filter.specs.declared.answers.Refusal.{Refusal}
use Rattle.ledger.specs.declared.numbers.Answer.{Answer}
use Rattle.form.specs.Answers.{changed}
use Rattle.session.specs.Turns.{settled, mark_turn}
use Rattle.session.proofs.SettledLaws.{handed_on}
use Rattle.session.proofs.ChunkLaws.{hashes_lent, lent, lent-length}
use Rattle.session.proofs.CopyLaws.{front_over}
use Rattle.session.proofs.DemandSteps.{demand_bad, demand-taken, demand-bytes}
use Rattle.session.proofs.lists.on_demand.Goals as goal

pub copy_from_slice-requires : goal.copy_from_slice-requires
copy_from_slice-requires c = sym (length-take-le 8192 c.args.marks.now c.requires.0.marks-room)

pub returns-in_err-serve_all : goal.returns-in_err-serve_all
returns-in_err-serve_all c = let a = c.args in
    ap (λ (r : Result Answer Refusal). mark_turn (settled a.numbers r) a.marks.now a.out.now) (handed_on c.from_residual.ensures c.in_err-serve_all.ensures.0)
    ∙ demand_bad a.numbers _ _ _ _ _ c.copy_from_slice.ensures.after (rw (hashes_lent a.n a.message.now c.requires.3) at c.in_err-serve_all.ensures.1)

pub returns : goal.returns
returns c = let a = c.args in
    let N = a.numbers in
    let room = c.requires.3 in
    demand-taken N _ _ _ _ _ c.copy_from_slice.ensures.after (rw (hashes_lent a.n a.message.now room) at c.in_ok-serve_all.ensures)
    (c.changed.ensures ∙ ap (λ (n : ℕ). changed N N.state N.done N.demanded 0 n) (sym (unpacked-length 512 a.n (part 4 (64 * a.n) a.message.now))))
    (front_over 8192 c.copy_from_slice-2.new.self a.marks.now (omega (arith, ap length c.copy_from_slice-2.ensures.after, c.serve_all.auto.marks))
    ∙ ap (λ (l : List ℕ). over 0 l a.marks.now) c.copy_from_slice-2.ensures.after)
    (demand-bytes a.n a.message.now a.out.now (λ i. search rules) room
    (front_over (64 * a.n) c.copy_from_slice-3.new.self a.out.now (ap length c.copy_from_slice-3.ensures.after ∙ lent-length 4 (64 * a.n) a.message.now room)
    ∙ ap (λ (l : List ℕ). over 0 l a.out.now) (c.copy_from_slice-3.ensures.after ∙ lent 4 (64 * a.n) a.message.now)))

-- `differ::report::report` meets its contract: a whole input is the head, the hashes of one table and those of the other. Assumes nothing.
use mathlib.Core.Path.{◌≡◌, refl, sym, ap, ◌∙◌}
use Prim.Native.Nat.{ℕ, ◌+◌, ◌*◌}
use native.Mathlib.Omega.{arith}
use lib.ListN.{length}
use Rattle.bucket.proofs.TestLaws.{test_refused, test_granted}
use Rattle.differ.specs.Report.{count_b}
use Rattle.differ.proofs.TextLaws.{writes_as}
use Rattle.differ.proofs.ReportLaws.{refusal-fits, input_whole, first_part, second_part, printed_malformed, printed-compared, reports}
use mathlib.Core.Bool.{not}
use Rattle.differ.proofs.report.report.Goals as goal
use Rattle.differ.proofs.report.report.Goals.{After-field}

-- how long a whole input is, by the count that was read
whole : (c : After-field) → length c.args.input.now ≡ 6 + 64 * (c.field.result + count_b c.args.input.now)
whole c = let input = c.args.input.now in
    input_whole input (test_granted c.is_input.ensures (ap not c.if-not-is_input.false))
    ∙ ap (λ (n : ℕ). 6 + 64 * (n + count_b input)) (sym c.field.ensures.0)

pub returns-then-out-lt-ROOM : goal.returns-then-out-lt-ROOM
returns-then-out-lt-ROOM c = record { counted = (omega arith, refl); reported = record { written = λ long. absurd (omega arith); unwritten = λ _. (refl, refl) } }

pub put_refusal-requires : goal.put_refusal-requires
put_refusal-requires c = omega (arith, refusal-fits 1 (omega arith))

pub returns-then-not-is_input : goal.returns-then-not-is_input
returns-then-not-is_input c = let input = c.args.input.now in
    let both = reports input (omega arith)
    (writes_as (printed_malformed input (test_refused c.is_input.ensures (ap not c.if-not-is_input.true))) c.put_refusal.ensures) in
    record { counted = both.0; reported = both.1 }

pub slice_bounds-compare-end : goal.slice_bounds-compare-end
slice_bounds-compare-end c = omega (arith, whole c)

pub slice_bounds-compare-count-2 : goal.slice_bounds-compare-count-2
slice_bounds-compare-count-2 c = omega (arith, whole (goal.at.slice_bounds-compare-count-2 c).After-field)

pub slice_bounds-compare-start-2 : goal.slice_bounds-compare-start-2
slice_bounds-compare-start-2 c = omega (arith, whole (goal.at.slice_bounds-compare-start-2 c).After-field)

pub returns : goal.returns
returns c = let input = c.args.input.now in
    let n = c.field.result in
    let own = c.field.ensures.0 in
    let first = first_part input n own in
    let second = second_part input n own (whole (goal.at.returns c).After-field) in
    let both = reports input (omega arith)
    (writes_as (printed-compared input (test_granted c.is_input.ensures (ap not c.if-not-is_input.false)) c.field-size.ensures.0 first second) c.compare.ensures) in
    record { counted = both.0; reported = both.1 }

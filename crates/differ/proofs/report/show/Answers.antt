-- `differ::report::show` meets its contract: the second call reads what the first built, and its answer is printed. The text fits,
-- since no more IDs are listed than there are buckets. Assumes nothing.
use mathlib.Core.Path.{◌≡◌, sym, ap, ◌∙◌}
use Prim.Native.Nat.{◌+◌, ◌≤◌}
use native.Mathlib.Omega.{arith}
use lib.Seq.{length-take-le}
use Rattle.std.specs.Prelude.{Ok, Err}
use Rattle.std.proofs.Common.{rules}
use Rattle.bucket.specs.Columns.{columns}
use Rattle.filter.specs.Answers.{refusal_number, answer_of}
use Rattle.filter.specs.Calls.{Read, answered}
use Rattle.differ.specs.Report.{our_reading}
use Rattle.differ.proofs.TextLaws.{writes_as}
use Rattle.differ.proofs.RefusalLaws.{build_goes}
use Rattle.differ.proofs.ReportLaws.{refusal-fits, listing-fits, few-listed, size_small, read_result, shown-refused, shown-listed, unread_number, refusal_some}
use Rattle.differ.proofs.report.show.Goals as goal
use Rattle.differ.proofs.report.show.Goals.{In-Ok, In-Err}

pub unwrap-requires : goal.unwrap-requires
unwrap-requires c = build_goes c.args.size c.args.a.now c.args.b.now c.requires.0 c.requires.1 c.build.result c.build.ensures

-- the two calls, one behind the other
found : (c : In-Ok)
    → answered (answer_of (Ok c.in-Ok.found)) (columns c.read.new.ids c.read.new.hashes c.read.new.counts) c.read.new.ours c.read.new.theirs
    ≡ our_reading c.args.size c.args.a.now c.args.b.now
found c = let a = c.args in
    let r = c.read.new in
    read_result a.size _ a.a.now a.b.now (answer_of (Ok c.in-Ok.found)) (columns c.build.new.ids c.build.new.hashes c.build.new.counts) (columns r.ids r.hashes r.counts) r.ours r.theirs
    c.build.ensures c.in-Ok.ensures

unread : (c : In-Err)
    → answered (answer_of (Err c.in-Err.unread)) (columns c.read.new.ids c.read.new.hashes c.read.new.counts) c.read.new.ours c.read.new.theirs
    ≡ our_reading c.args.size c.args.a.now c.args.b.now
unread c = let a = c.args in
    let r = c.read.new in
    read_result a.size _ a.a.now a.b.now (answer_of (Err c.in-Err.unread)) (columns c.build.new.ids c.build.new.hashes c.build.new.counts) (columns r.ids r.hashes r.counts) r.ours r.theirs
    c.build.ensures c.in-Err.ensures

-- no more IDs are listed than there are buckets
few : (c : In-Ok) → c.in-Ok.found.ours + c.in-Ok.found.theirs ≤ 512
few c =
    let given = found c in
    let small = size_small c.args.size c.requires.1 in
    omega (arith, few-listed c.args.size c.args.a.now c.args.b.now, ap (λ (q : Read). q.answer.ours) given, ap (λ (q : Read). q.answer.theirs) given)

pub slice_bounds-ours-end : goal.slice_bounds-ours-end
slice_bounds-ours-end c = omega (arith, few (goal.at.slice_bounds-ours-end c).In-Ok, c.read.auto.ours)

pub slice_bounds-ours-end-in-Ok : goal.slice_bounds-ours-end-in-Ok
slice_bounds-ours-end-in-Ok c = sym (length-take-le _ _ (omega (arith, few (goal.at.slice_bounds-ours-end-in-Ok c).In-Ok, c.read.auto.ours)))

pub slice_bounds-theirs-end : goal.slice_bounds-theirs-end
slice_bounds-theirs-end c = omega (arith, few (goal.at.slice_bounds-theirs-end c).In-Ok, c.read.auto.theirs)

pub slice_bounds-theirs-end-in-Ok : goal.slice_bounds-theirs-end-in-Ok
slice_bounds-theirs-end-in-Ok c = sym (length-take-le _ _ (omega (arith, few (goal.at.slice_bounds-theirs-end-in-Ok c).In-Ok, c.read.auto.theirs)))

pub put_listing-requires : goal.put_listing-requires
put_listing-requires c = let f = c.in-Ok.found in
    omega (arith, listing-fits c.args.size c.from-complete.result f.ours f.theirs c.read.new.ours c.read.new.theirs (omega arith) (omega arith) (few (goal.at.put_listing-requires c).In-Ok), c.requires.2)

pub returns-in-Ok : goal.returns-in-Ok
returns-in-Ok c =
    let f = c.in-Ok.found in
    writes_as
    (shown-listed c.args.size 0 c.from-complete.result f.ours f.theirs (found (goal.at.returns-in-Ok c).In-Ok) (search rules) (search rules) (search rules) (search rules) (search rules))
    c.put_listing.ensures

pub put_refusal-requires : goal.put_refusal-requires
put_refusal-requires c = omega (arith, refusal-fits c.from-in-Err.result (omega arith), c.requires.2)

pub returns-in-Err : goal.returns-in-Err
returns-in-Err c =
    let n : c.from-in-Err.result ≡ (answer_of (Err c.in-Err.unread)).refusal =
    c.from-in-Err.ensures ∙ ap refusal_number c.from.ensures ∙ sym (unread_number c.in-Err.unread) in
    writes_as (shown-refused c.args.size c.from-in-Err.result (unread (goal.at.returns-in-Err c).In-Err) n (λ e. refusal_some c.from.result (sym c.from-in-Err.ensures ∙ e))) c.put_refusal.ensures

use mathlib.Core.Path.{◌∙◌, sym}
use native.Mathlib.Omega.{arith}
use Prim.Native.Nat.{◌<◌}
use lib.ListN.{length, set}
use lib.Seq.{take_all}
use Rattle.std.proofs.lemmas.List.{length-set, take-set, take_more_same, get_or-set_same}
use Rattle.filter.specs.Table.{first_eight, ids_of}
use Rattle.form.proofs.JudgeLaws.{ids-count}
use Rattle.form.proofs.judging.ids_into.Goals as goal

pub loop-i-preserved : goal.loop-i-preserved
loop-i-preserved c = let w = c.loop-i in
    let ids = ids_of first_eight c.args.hashes.now in
    let here : w.i < length w.ids = omega arith in
    let there : w.i < length ids = omega (arith, ids-count c.args.hashes.now) in
    take_more_same (set w.ids w.i c.element_id.result) ids w.i 0 (omega (arith, length-set w.ids w.i c.element_id.result)) there
    (take-set w.ids w.i c.element_id.result ∙ w.invariant)
    (get_or-set_same w.ids w.i c.element_id.result 0 here ∙ c.element_id.ensures)

pub returns : goal.returns
returns c = let w = c.loop-i in
    sym (take_all w.i w.ids (omega arith)) ∙ w.invariant ∙ take_all w.i (ids_of first_eight c.args.hashes.now) (omega (arith, ids-count c.args.hashes.now))

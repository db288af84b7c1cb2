use Rattle.std.proofs.Common.{◌≡◌, map, get_or, sym, ap, ◌∙◌}
use Rattle.std.proofs.lemmas.List.{length-map, get_or-map}
use Rattle.message.proofs.PutLaws.{put-start, put_next, put-end}
use Rattle.message.proofs.copying.put_numbers.Goals as goal

pub loop-j-init : goal.loop-j-init
loop-j-init g c = put-start _ _ _ _

pub loop-j-preserved : goal.loop-j-preserved
loop-j-preserved g c =
    let value = g.T.Number.value in
    let xs = c.args.xs.now in
    let x = c.index-xs-j in
    let there = c.loop-j-test.true in
    let one : c.number.result ≡ get_or (map value xs) c.loop-j.j 0 =
    c.number.ensures ∙ ap value x.is ∙ sym (get_or-map value xs c.loop-j.j x.result 0 there) in
    put_next g.T.Number.BYTES c.args.at (map value xs) c.args.out.now c.loop-j.invariant g.met.T.Number.few
    (rw length-map there) (rw length-map c.requires)
    (rw (c.BYTES.ensures, c.BYTES-in-loop-j.ensures, one) at c.put_number.ensures)

pub returns-clause-put : goal.returns-clause-put
returns-clause-put g c = put-end _ _ _ _ c.loop-j.invariant (rw length-map c.loop-j-test.false)

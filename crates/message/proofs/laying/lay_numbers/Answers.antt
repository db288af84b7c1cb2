use Rattle.std.proofs.Common.{◌∙◌, length, map, ◌≡◌, ◌*◌}
use Rattle.std.proofs.Math.Nat.{min-eq_right}
use Rattle.std.proofs.lemmas.List.{length-map, map-set}
use Rattle.message.specs.Reading.{field}
use Rattle.message.proofs.LayLaws.{numbers-next, numbers-end}
use Rattle.message.proofs.ReadLaws.{field_lt}
use Rattle.message.proofs.laying.lay_numbers.Goals as goal
use Rattle.message.proofs.laying.lay_numbers.Goals.{After-number_at}

-- the number that is read
read : (g : _) (c : After-number_at g) → c.number_at.result ≡ field g.T.Number.BYTES (g.T.Number.BYTES * c.loop-j.j) c.args.s.now
read g c = let few = min-eq_right {n = g.T.Number.BYTES} {m = 8} g.met.T.Number.few in
    rw (c.BYTES.ensures, c.BYTES-in-loop-j.ensures, few) at c.number_at.ensures

pub of-requires : goal.of-requires
of-requires g c = rw (read g c) (field_lt g.T.Number.BYTES _ c.args.s.now)

pub loop-j-preserved : goal.loop-j-preserved
loop-j-preserved g c = let value = g.T.Number.value in
    rw (map-set value c.loop-j.xs c.loop-j.j c.of.result)
    (numbers-next g.T.Number.BYTES (length c.args.xs.now) c.args.s.now c.requires (map value c.loop-j.xs) (value c.of.result) c.loop-j.invariant (rw length-map c.loop-j.auto.xs) c.loop-j-test.true
    (c.of.ensures ∙ read g (goal.at.loop-j-preserved g c).After-number_at))

pub returns : goal.returns
returns g c = let value = g.T.Number.value in
    numbers-end g.T.Number.BYTES (length c.args.xs.now) c.args.s.now c.requires (map value c.loop-j.xs) c.loop-j.invariant (rw length-map c.loop-j.auto.xs) c.loop-j-test.false

-- `copying::put_numbers` meets its contract. The loop's invariant: the first j numbers stand in the buffer, and nothing else has changed. Assumes nothing.
use Rattle.std.proofs.Common.{map}
use Rattle.message.proofs.PutLaws.{Put}
use Rattle.message.proofs.copying.put_numbers.Given as goal

abbrev pub invariant-loop-j : goal.invariant-loop-j
invariant-loop-j g l = Put g.T.Number.BYTES l.at (map g.T.Number.value l.xs) l.initial.out l.out l.j

-- `copying::put_bytes` meets its contract. The loop's invariant: the first j bytes stand in the buffer, and nothing else has changed. Assumes nothing.
use lib.ListN.{take}
use Rattle.bucket.proofs.OverLaws.{Laid}
use Rattle.message.proofs.copying.put_bytes.Given as goal

abbrev pub invariant-loop-j : goal.invariant-loop-j
invariant-loop-j l = Laid l.at (take l.j l.bytes) l.initial.out l.out

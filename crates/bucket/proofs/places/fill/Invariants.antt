-- `bucket::places::fill` meets its contract: the loop keeps `Searching`, with the bucket numbers from c on as the candidates left. Assumes nothing.
use lib.ListN.{length, take, drop}
use Rattle.bucket.specs.Places.{firsts}
use Rattle.bucket.proofs.TableLaws.{numbers}
use Rattle.bucket.proofs.SearchLaws.{Searching}
use Rattle.bucket.proofs.places.fill.Given as goal

abbrev pub invariant-loop-c : goal.invariant-loop-c
invariant-loop-c l = Searching (length l.initial.taken) l.k (firsts l.k (take l.found l.initial.taken) (numbers l.size)) l.taken l.n (drop l.c-counter (numbers l.size))

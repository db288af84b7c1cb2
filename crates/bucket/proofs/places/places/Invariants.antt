-- `bucket::places::places` meets its contract. The outer loop keeps `Drawing`: the n places found stand first, zeros behind them, and the candidates
-- from the i-th on give the rest of the places. The inner loop keeps that the draw's bucket is none of those that it has passed. Assumes nothing.
use mathlib.Core.Path.{◌≡◌}
use mathlib.Core.Bool.{false}
use Prim.Native.Nat.{min}
use lib.ListN.{take}
use Rattle.bucket.specs.Crc.{next_by}
use Rattle.bucket.specs.Lists.{elem}
use Rattle.bucket.proofs.SearchLaws.{Drawing}
use Rattle.bucket.proofs.places.places.Given as goal

abbrev pub invariant-loop-p : goal.invariant-loop-p
invariant-loop-p l = elem l.c (take l.p-index l.p-items) ≡ false

abbrev pub invariant-draws : goal.invariant-draws
invariant-draws l = Drawing (next_by l.tab) (min 4 l.k) l.size l.d l.taken l.n l.e l.i

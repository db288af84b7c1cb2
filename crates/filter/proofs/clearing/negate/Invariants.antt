-- `clearing::negate` meets its contract: a count below 2^61 has an opposite of 64 bits. The invariant: of the part lent, the signs that the
-- loop has passed are turned. Assumes nothing.
use lib.ListN.{take}
use Rattle.filter.proofs.NegatedLaws.{Turned}
use Rattle.filter.proofs.clearing.negate.Given as goal

abbrev pub invariant-loop-c : goal.invariant-loop-c
invariant-loop-c l = Turned l.n (take l.n l.fn.counts) l.c-items l.c-index

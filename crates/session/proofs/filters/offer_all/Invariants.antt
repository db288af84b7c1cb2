-- `filters::offer_all` meets its contract. The loop's invariant: the walk has come to element i. Assumes nothing.
use Rattle.session.proofs.OfferAllLaws.{Offering}
use Rattle.session.proofs.filters.offer_all.Given as goal

abbrev pub invariant-loop-i : goal.invariant-loop-i
invariant-loop-i l = Offering l.table l.ours l.initial.marks l.initial.hashes l.marks l.hashes l.i

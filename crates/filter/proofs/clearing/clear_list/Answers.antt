-- `clearing::clear_list` meets its contract: what is written over the start of the list is no ID and n zeros behind it. Assumes nothing.
use mathlib.Core.Path.{◌≡◌}
use mathlib.Core.List.{List, [], ◌++◌}
use Prim.Native.Nat.{ℕ}
use native.Mathlib.Nat.{zero-add, sub-zero}
use lib.ListN.{replicate, drop, length-replicate}
use lib.Seq.{length-take-le}
use Rattle.bucket.specs.Lists.{over, pad}
use Rattle.filter.specs.Calls.{listed_into}
use Rattle.filter.proofs.clearing.clear_list.Goals as goal

none_listed : (n : ℕ) (o : List ℕ) → replicate n 0 ++ drop n o ≡ listed_into n [] o
unfolding listed_into over pad
none_listed n o = let same = sub-zero n in simp (length-replicate, zero-add, same)

pub returns : goal.returns
returns c = let a = c.args in
    rw (c.fill.ensures.after (λ y e. e), length-take-le a.n a.xs.now c.requires) (none_listed a.n a.xs.now)

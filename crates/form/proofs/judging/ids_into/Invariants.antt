-- `judging::ids_into` meets its contract: the IDs before i are written. Assumes nothing.
use mathlib.Core.Path.{◌≡◌}
use lib.ListN.{take}
use Rattle.filter.specs.Table.{first_eight, ids_of}
use Rattle.form.proofs.judging.ids_into.Given as goal

abbrev pub invariant-loop-i : goal.invariant-loop-i
invariant-loop-i l = take l.i l.ids ≡ take l.i (ids_of first_eight l.hashes)

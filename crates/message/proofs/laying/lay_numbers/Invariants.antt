-- `laying::lay_numbers` meets its contract. The invariant: the first j numbers are laid. Assumes nothing.
use Rattle.std.proofs.Common.{◌≡◌, ◌*◌, map, length, take}
use Rattle.bucket.specs.Digits.{unpacked}
use Rattle.message.proofs.laying.lay_numbers.Given as goal

abbrev pub invariant-loop-j : goal.invariant-loop-j
invariant-loop-j g l = take l.j (map g.T.Number.value l.xs) ≡ take l.j (unpacked (8 * g.T.Number.BYTES) (length l.initial.xs) l.s)

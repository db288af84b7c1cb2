-- `bucket::packing::counter` meets its contract. The invariant: c is the number whose k bits are packed bits w × i to w × i + k − 1. Assumes nothing.
use Prim.Native.Nat.{◌+◌, ◌*◌}
use Rattle.bucket.specs.Digits.{bit_at}
use Rattle.bucket.proofs.BitLaws.{Read}
use Rattle.bucket.proofs.packing.counter.Given as goal

abbrev pub invariant-loop-k : goal.invariant-loop-k
invariant-loop-k l = Read (λ m. bit_at 8 l.bytes (l.w * l.i + m)) l.k l.c

-- Chains of calls for the benchmark: each input is the result before it, so that none can be left out. Assumes nothing.
use Rattle.std.specs.Prelude.{ℕ, ◌+◌, ◌%◌, ◌^◌, min, List, bit_xor, slice_index}
use Rattle.bucket.specs.Lists.{pad}
use Rattle.bucket.specs.Places.{places}

-- the XOR of four entries
abbrev pub mixed : List ℕ → ℕ
mixed p = bit_xor (bit_xor (slice_index p 0) (slice_index p 1)) (bit_xor (slice_index p 2) (slice_index p 3))

-- the next draw 0: a stride on, and the places of this one mixed in
abbrev pub strided : ℕ → ℕ → ℕ → ℕ → ℕ
strided size k d i = bit_xor ((d + 0x9E3779B9) % 2 ^ 32) (mixed (pad 4 (places (min 4 k) size d)))

-- Numbers below 4,096, each marked or not, as 64 words of 64 bits, with a word that says which of them are not zero.
-- Cited by private functions alone.
--
--   lit w i            bit i of w is set
--   but g b t          g with another answer at b
--   marks g            the marks of the numbers below 4,096 that g says are on
--   mark_in bits b     the mark of b in the words
--   Topped bits top    the word top names the words that are not zero
--
-- Assumes nothing.
use Rattle.std.specs.Prelude.{◌≡◌, Bool, not, cond, List, map, ℕ, ◌/◌, ◌%◌, ◌<◌, eqb, get_or}
use Rattle.std.specs.Int.{bit_at}
use Rattle.std.specs.List.{range_with_len}

unfoldable pub lit : ℕ → ℕ → Bool
lit w i = eqb (bit_at w i) 1

abbrev pub but : (ℕ → Bool) → ℕ → Bool → ℕ → Bool
but g b t i = cond (eqb i b) t (g i)

unfoldable pub marks : (ℕ → Bool) → List Bool
marks g = map g (range_with_len 0 4096)

abbrev pub mark_in : List ℕ → ℕ → Bool
mark_in bits b = lit (get_or bits (b / 64) 0) (b % 64)

pub record Topped (bits : List ℕ) (top : ℕ) : Type 0 where
  pub each : (w : ℕ) → w < 64 → lit top w ≡ not (eqb (get_or bits w 0) 0)

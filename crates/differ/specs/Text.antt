-- The printed text of `differ` (document 01, "Numbers to check", the last item), as lists of bytes in ASCII.
--
--   decimal n               n in base ten, in as few digits as it takes
--   hex16 x                 x in sixteen digits of base 16, in lower case
--   line label x            a label, an ID and a line end
--   lines label xs          a line for each ID
--   heading size whole      "size 37 salt 0 complete 1", whole being 1 or 0
--   listing ..              the heading, the lines of ours, the lines of theirs
--   refusal n               "refused" and the number
--   Writes at t l r m       writing t over the memory l from at on gives m, and r, inside m, is the position behind it
--
-- The digits are those of the library `io`. Laws (proofs/TextLaws): decimal_fewest, lines-length, listing-length, writes_then.
-- Assumes nothing.
use Rattle.std.specs.Prelude.{◌≡◌, cond, List, [], ◌∷◌, ◌++◌, ℕ, zero, suc, ◌+◌, ◌/◌, ◌≤◌, ltb, length}
use Rattle.io.specs.Digits.{last_digits}
use Rattle.bucket.specs.Lists.{over}

-- how many digits of base ten n takes, at least one; the first number is fuel, of which n is enough
unfoldable pub places_by : ℕ → ℕ → ℕ
places_by zero n = 1
places_by (suc fuel) n = cond (ltb n 10) 1 (suc (places_by fuel (n / 10)))

unfoldable pub decimal : ℕ → List ℕ
decimal n = last_digits 10 (places_by n n) n

unfoldable pub hex16 : ℕ → List ℕ
hex16 x = last_digits 16 16 x

abbrev pub newline : List ℕ
newline = 10 ∷ []

-- "ours "
abbrev pub ours_label : List ℕ
ours_label = 111 ∷ 117 ∷ 114 ∷ 115 ∷ 32 ∷ []

-- "theirs "
abbrev pub theirs_label : List ℕ
theirs_label = 116 ∷ 104 ∷ 101 ∷ 105 ∷ 114 ∷ 115 ∷ 32 ∷ []

-- "size "
abbrev pub size_label : List ℕ
size_label = 115 ∷ 105 ∷ 122 ∷ 101 ∷ 32 ∷ []

-- " salt 0 complete "
abbrev pub complete_label : List ℕ
complete_label =
    32 ∷ 115 ∷ 97 ∷ 108 ∷ 116 ∷ 32 ∷ 48 ∷ 32 ∷ 99 ∷ 111 ∷ 109 ∷ 112 ∷ 108 ∷ 101 ∷ 116 ∷ 101 ∷ 32 ∷ []

-- "refused "
abbrev pub refused_label : List ℕ
refused_label = 114 ∷ 101 ∷ 102 ∷ 117 ∷ 115 ∷ 101 ∷ 100 ∷ 32 ∷ []

unfoldable pub line : List ℕ → ℕ → List ℕ
line label x = label ++ (hex16 x ++ newline)

unfoldable pub lines : List ℕ → List ℕ → List ℕ
lines label [] = []
lines label (x ∷ xs) = line label x ++ lines label xs

unfoldable pub heading : ℕ → ℕ → List ℕ
heading size whole = size_label ++ (decimal size ++ (complete_label ++ (decimal whole ++ newline)))

-- "`ours` lines precede `theirs` lines, each in peel order"
unfoldable pub listing : ℕ → ℕ → List ℕ → List ℕ → List ℕ
listing size whole ours theirs = heading size whole ++ (lines ours_label ours ++ lines theirs_label theirs)

-- "A refusal prints only `refused` and the number"
unfoldable pub refusal : ℕ → List ℕ
refusal n = refused_label ++ (decimal n ++ newline)

pub record Writes (at : ℕ) (text l : List ℕ) (r : ℕ) (m : List ℕ) : Type 0 where
  pub next : r ≡ at + length text
  pub within : r ≤ length m
  pub same : length m ≡ length l
  pub laid : m ≡ over at text l

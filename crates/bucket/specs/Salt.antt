-- Salting (document 01, "Slips, IDs and places"): "rotate the ID right by (salt × 7) mod 64".
--
--   rot s x        x rotated right by s, 0 to 64, on 64 bits
--   salted t x     the salted form of the ID x at salt t
--   unsalted t x   the ID whose salted form is x
--
-- Stated by / and %, so that a rotation by 0 is no special case. A salt above 63 counts modulo 64, as the rotation does.
-- Laws (proofs/SaltLaws): unsalted-salted, salted-unsalted, salted_lt, unsalted_lt, salted-mod, unsalted-mod.
-- Assumes nothing.
use Rattle.std.specs.Prelude.{ℕ, ◌+◌, ◌-◌, ◌*◌, ◌/◌, ◌%◌, ◌^◌}

-- the s low bits go to the top
unfoldable pub rot : ℕ → ℕ → ℕ
rot s x = x / 2 ^ s + x % 2 ^ s * 2 ^ (64 - s)

abbrev pub turn : ℕ → ℕ
turn salt = salt * 7 % 64

unfoldable pub salted : ℕ → ℕ → ℕ
salted salt x = rot (turn salt) x

unfoldable pub unsalted : ℕ → ℕ → ℕ
unsalted salt x = rot (64 - turn salt) x

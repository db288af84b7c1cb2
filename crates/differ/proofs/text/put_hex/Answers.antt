-- `differ::text::put_hex` meets its contract: what `io` writes is sixteen digits, since a u64 takes no more, and they are copied. Assumes nothing.
use mathlib.Core.Path.{◌≡◌, ap, ◌∙◌}
use Prim.Native.Nat.{ℕ}
use lib.ListN.{length, take}
use native.Mathlib.Omega.{arith}
use Rattle.io.specs.Digits.{last_digits}
use Rattle.differ.specs.Text.{hex16}
use Rattle.differ.proofs.TextLaws.{hex_fewest, hex_length, writes_as}
use Rattle.differ.proofs.text.put_hex.Goals as goal
use Rattle.differ.proofs.text.put_hex.Goals.{After-hex-k}

-- the digits that `io` wrote
spelled : (c : After-hex-k) → take c.hex-k.result c.hex-k.new.out ≡ hex16 c.args.x
unfolding hex16
spelled c = let a = c.args in
    c.hex-k.ensures.digits ∙ ap (λ (k : ℕ). last_digits 16 k a.x) (hex_fewest a.x c.hex-k.result c.hex-k.ensures.len (omega arith))

pub put_bytes-requires : goal.put_bytes-requires
put_bytes-requires c = omega (arith, ap length (spelled (goal.at.put_bytes-requires c).After-hex-k), hex_length c.args.x)

pub returns : goal.returns
returns c = writes_as (spelled (goal.at.returns c).After-hex-k) c.put_bytes.ensures

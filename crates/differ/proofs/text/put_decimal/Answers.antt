-- `differ::text::put_decimal` meets its contract: what `io` writes is the fewest digits, and they are copied. Assumes nothing.
use mathlib.Core.Path.{◌≡◌, ap, ◌∙◌}
use lib.ListN.{length, take}
use native.Mathlib.Omega.{arith}
use Rattle.differ.specs.Text.{decimal}
use Rattle.differ.proofs.TextLaws.{decimal_fewest, writes_as}
use Rattle.differ.proofs.text.put_decimal.Goals as goal
use Rattle.differ.proofs.text.put_decimal.Goals.{After-decimal-k}

-- the digits that `io` wrote
spelled : (c : After-decimal-k) → take c.decimal-k.result c.decimal-k.new.out ≡ decimal c.args.n
spelled c = c.decimal-k.ensures.digits ∙ decimal_fewest _ _ c.decimal-k.ensures.len

pub put_bytes-requires : goal.put_bytes-requires
put_bytes-requires c = omega (arith, ap length (spelled (goal.at.put_bytes-requires c).After-decimal-k))

pub returns : goal.returns
returns c = writes_as (spelled (goal.at.returns c).After-decimal-k) c.put_bytes.ensures

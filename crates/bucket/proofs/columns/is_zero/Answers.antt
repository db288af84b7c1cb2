-- `columns::is_zero` meets its contract: a count is zero exactly where its bits are. Assumes nothing.
use mathlib.Core.Path.{◌≡◌, refl, ap, ◌∙◌}
use mathlib.Core.Bool.{Bool, ◌&&◌, and_assoc}
use Prim.Native.Nat.{zero, suc}
use native.Mathlib.Omega.{arith}
use borrow.Author.Tests.{ne_eqb}
use lib.Dec.{eqb, eqb-suc-zero}
use lib.IntN.{ℤ, pos, negsuc}
use mir.Syntax.{w64}
use mir.Val.{SFits, of_z}
use Rattle.bucket.specs.Bucket.{is_zero_ℤ, is_zero}
use Rattle.bucket.proofs.columns.is_zero.Goals as goal

zero_bits : (z : ℤ) → SFits w64 z → eqb (of_z w64 z) 0 ≡ is_zero_ℤ z
zero_bits (pos zero) f = refl
zero_bits (pos (suc n)) f = eqb-suc-zero n
zero_bits (negsuc n) f = ne_eqb (of_z w64 (negsuc n)) 0 (λ e. omega arith)

pub returns : goal.returns
unfolding is_zero
returns c = and_assoc (eqb c.args.idsum 0) (eqb c.args.hashsum 0) _
    ∙ ap (λ (t : Bool). eqb c.args.idsum 0 && (eqb c.args.hashsum 0 && t)) (zero_bits c.args.count c.ranges.count)

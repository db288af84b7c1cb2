-- `strata::sample` meets its contract: of a total that is zero nothing is known; another, below 4,096, can be moved by 32 bits and stays whole.
-- Assumes nothing.
use mathlib.Core.Path.{◌≡◌, refl, ap, ◌∙◌}
use Prim.Native.Nat.{◌+◌, ◌*◌, ◌^◌, ◌<◌}
use native.Mathlib.Omega.{arith}
use lib.Pow.{shl_exact}
use Rattle.filter.specs.declared.answers.Estimate.{Estimate}
use Rattle.filter.specs.declared.answers.Estimate.TheVariants.{Known, Unknown}
use Rattle.filter.proofs.StrataLaws.{sampled_cases}
use Rattle.filter.proofs.strata.sample.Goals as goal

pub returns-then-total-eq0 : goal.returns-then-total-eq0
returns-then-total-eq0 c = let zero : c.args.total ≡ 0 = omega arith in
    sampled_cases c.args.total c.args.i (λ (e : Estimate). Unknown ≡ e) (λ z. refl) (λ p. absurd (omega (arith, zero, p)))

pub returns : goal.returns
returns c = let some : 0 < c.args.total = omega arith in
    ap Known (shl_exact 12 (c.args.i + 1) 64 c.requires.few (omega (arith, c.requires.inside)))
    ∙ sampled_cases c.args.total c.args.i (λ (e : Estimate). Known (c.args.total * 2 ^ (c.args.i + 1)) ≡ e) (λ z. absurd (omega (arith, some, z)))
    (λ p. refl)

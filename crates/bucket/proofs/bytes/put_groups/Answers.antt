use mathlib.Core.Path.{◌≡◌, ap, ap₂, ◌∙◌}
use Prim.Native.Nat.{ℕ, ◌+◌, ◌-◌, ◌*◌, ◌/◌, ◌%◌, ◌^◌}
use native.Mathlib.Nat.{div-one}
use native.Mathlib.Omega.{arith}
use Rattle.bucket.specs.Digits.{groups}
use Rattle.bucket.specs.Lists.{over}
use Rattle.bucket.proofs.DigitLaws.{groups-length, byte_next}
use Rattle.bucket.proofs.OverLaws.{laid-start, laid_next}
use Rattle.bucket.proofs.bytes.put_groups.Goals as goal

pub loop-j-init : goal.loop-j-init
unfolding groups
loop-j-init c = laid-start c.args.at c.args.s.now

pub bounds-s-at : goal.bounds-s-at
bounds-s-at c = omega (arith, c.loop-j.invariant.same)

pub loop-j-preserved : goal.loop-j-preserved
loop-j-preserved c = let a = c.args in
    let at = c.loop-j in
    laid_next (a.x / 2 ^ (8 * (a.k - 1 - at.j)) % 256) (groups 8 (at.j + 1) (a.x / 2 ^ (8 * (a.k - (at.j + 1))))) at.invariant
    (ap (λ (n : ℕ). a.at + n) (groups-length 8 at.j (a.x / 2 ^ (8 * (a.k - at.j))))) (omega arith)
    (byte_next a.k a.x at.j (omega arith))

pub shape_of-s : goal.shape_of-s
shape_of-s c = c.loop-j.invariant.same

pub returns : goal.returns
returns c = let a = c.args in
    let at = c.loop-j in
    let end : at.j ≡ a.k = omega arith in
    let none : a.k - at.j ≡ 0 = omega arith in
    at.invariant.laid
    ∙ ap₂ (λ (n e : ℕ). over a.at (groups 8 n (a.x / 2 ^ (8 * e))) a.s.now) end none
    ∙ ap (λ (q : ℕ). over a.at (groups 8 a.k q) a.s.now) (div-one a.x)

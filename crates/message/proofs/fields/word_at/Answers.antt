-- `message::fields::word_at` meets its contract: at most four bytes hold a number below 2^32. Assumes nothing.
use mathlib.Core.Path.{ap, ◌∙◌}
use Prim.Native.Nat.{ℕ, ◌*◌, min}
use native.Mathlib.Nat.{min-eq_right}
use native.Mathlib.Omega.{arith}
use lib.Pow.{pow_mono}
use Rattle.message.specs.Reading.{field}
use Rattle.message.proofs.ReadLaws.{field_lt}
use Rattle.message.proofs.fields.word_at.Goals as goal

pub overflow_cast-result : goal.overflow_cast-result
overflow_cast-result c = let a = c.args in
    let few = pow_mono {i = 8 * min 8 a.k} {j = 32} (omega arith) in
    omega (arith, c.number_at.ensures, field_lt (min 8 a.k) a.at a.s.now)

pub returns : goal.returns
returns c = let a = c.args in
    c.number_at.ensures ∙ ap (λ (n : ℕ). field n a.at a.s.now) (min-eq_right {n = a.k} {m = 8} (omega arith))

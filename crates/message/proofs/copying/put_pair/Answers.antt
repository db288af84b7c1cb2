-- `copying::put_pair` meets its contract: the second number is put behind the first. Assumes nothing.
use mathlib.Core.Path.{sym, ap, ◌∙◌}
use mathlib.Core.List.{List, [], ◌∷◌, ◌++◌, append-nil}
use Prim.Native.Nat.{ℕ, ◌+◌}
use native.Mathlib.Omega.{arith}
use Rattle.bucket.specs.Digits.{groups}
use Rattle.bucket.specs.Lists.{over}
use Rattle.bucket.proofs.DigitLaws.{groups-length}
use Rattle.bucket.proofs.OverLaws.{then_over}
use Rattle.message.proofs.PutLaws.{put-there}
use Rattle.message.proofs.WholeLaws.{packed-cons, packed-nil}
use Rattle.message.proofs.copying.put_pair.Goals as goal

pub returns : goal.returns
returns c = let a = c.args in
    let first = c.put_number in
    let len = groups-length 8 a.k a.x in
    let more = groups-length 8 a.k a.y in
    then_over a.at a.out.now (groups 8 a.k a.x) (groups 8 a.k a.y)
    (first.ensures ∙ put-there a.at a.k a.x a.out.now (omega arith) (omega arith))
    (c.put_number-2.ensures ∙ put-there (a.at + a.k) a.k a.y _ (omega arith) (omega (arith, first.auto.s)))
    (omega arith) (omega arith)
    ∙ ap (λ (q : List ℕ). over a.at q a.out.now)
    (sym (packed-cons a.k a.x (a.y ∷ []) ∙ ap (λ (q : List ℕ). groups 8 a.k a.x ++ q) (packed-cons a.k a.y [] ∙ ap (λ (q : List ℕ). groups 8 a.k a.y ++ q) (packed-nil a.k) ∙ append-nil (groups 8 a.k a.y))))

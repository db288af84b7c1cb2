-- What `?` hands on in a message's function. Assumes nothing.
use mathlib.Core.Path.{◌≡◌, ap, ◌∙◌}
use Rattle.std.specs.Prelude.{Result, Ok, Err, IsErr, IsErrAnd}
use Rattle.std.proofs.Common.{rules}
use Rattle.filter.specs.declared.answers.Refusal.{Refusal}
use Rattle.ledger.specs.declared.numbers.Answer.{Answer}

pub handed_on : {r : Result Answer Refusal} {why which : Refusal} → IsErr r × IsErrAnd r (λ e. e ≡ why) → why ≡ which → r ≡ Err which
handed_on {r} {why} {which} h is = go r h
  where
    go : (x : Result Answer Refusal) → IsErr x × IsErrAnd x (λ e. e ≡ why) → x ≡ Err which
    go (Ok a) k = search rules
    go (Err e) k = ap Err (k.1 ∙ is)

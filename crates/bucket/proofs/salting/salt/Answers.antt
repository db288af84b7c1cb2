-- `bucket::salting::salt` meets its contract: the library's rotation, and a salt counts modulo 64. Assumes nothing.
use mathlib.Core.Path.{◌∙◌}
use native.Mathlib.Omega.{arith}
use Rattle.bucket.proofs.SaltLaws.{rot-right, salted-mod}
use Rattle.bucket.proofs.salting.salt.Goals as goal

pub returns : goal.returns
returns c = c.rotate_right.ensures ∙ rot-right c.args.x (omega arith) _ (omega arith) ∙ salted-mod c.args.t c.args.x

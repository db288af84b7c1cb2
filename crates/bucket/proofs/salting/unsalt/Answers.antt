-- `bucket::salting::unsalt` meets its contract: rotated left, which is right by what is left of 64 bits. Assumes nothing.
use mathlib.Core.Path.{◌∙◌}
use native.Mathlib.Omega.{arith}
use Rattle.bucket.proofs.SaltLaws.{rot-left, unsalted-mod}
use Rattle.bucket.proofs.salting.unsalt.Goals as goal

pub returns : goal.returns
returns c = c.rotate_left.ensures ∙ rot-left c.args.x (omega arith) _ (omega arith) ∙ unsalted-mod c.args.t c.args.x

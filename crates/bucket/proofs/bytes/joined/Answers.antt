use native.Mathlib.Omega.{arith}
use mathlib.Core.Path.{◌∙◌}
use Rattle.std.proofs.Common.{rules}
use borrow.Author.Tests.{tests}
use Rattle.std.proofs.lemmas.Iterator.{YieldsList-from_slice}
use Rattle.std.proofs.lemmas.Iterator.Consumers.{fold_from_yields_List}
use Rattle.bucket.proofs.ByteLaws.{byte_behind, fold-joined}
use Rattle.bucket.proofs.bytes.joined.Goals as goal

pub returns : goal.returns
returns c = fold_from_yields_List _ byte_behind 0 _ c.fold.ensures.ran (YieldsList-from_slice c.args.bytes.now cc) (λ a x r q k. search (rules, tests)) ∙ fold-joined c.args.bytes.now c.requires (λ i. omega (arith, c.type_inv.bytes i))

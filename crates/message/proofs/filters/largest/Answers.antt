-- `filters::largest` meets its contract: the larger of each count and those before it (largest-folded). Assumes nothing.
use Rattle.std.proofs.Common.{◌≡◌, ◌∙◌, max, rules}
use Rattle.std.specs.List.{fold}
use Rattle.bucket.specs.Packing.{number}
use Rattle.message.proofs.WidthLaws.{largest-folded}
use Rattle.message.proofs.filters.largest.Goals as goal

pub returns : goal.returns
returns c = let cs = c.args.counts.now in
    let folded : c.fold.result ≡ fold (λ m c. max m (number c)) 0 cs = search rules in
    folded ∙ largest-folded cs

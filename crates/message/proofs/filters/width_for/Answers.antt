-- `filters::width_for` meets its contract: the largest count has 32 bits, so the cast loses none. Assumes nothing.
use Rattle.std.proofs.Common.{ap, ◌∙◌}
use Rattle.bucket.specs.Counts.{width_of}
use Rattle.message.proofs.WidthLaws.{largest-small}
use Rattle.message.proofs.filters.width_for.Goals as goal

pub overflow_cast-largest : goal.overflow_cast-largest
overflow_cast-largest c = record { fits = rw c.largest.ensures (largest-small c.args.counts.now c.requires) }

pub returns : goal.returns
returns c = c.width.ensures ∙ ap width_of c.largest.ensures

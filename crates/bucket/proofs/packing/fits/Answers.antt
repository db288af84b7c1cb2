-- `bucket::packing::fits` meets its contract: the counts fit where each does. Assumes nothing.
use Rattle.std.proofs.Common.{rules, ap, sym, ◌∙◌}
use mathlib.Core.Bool.{Bool, ◌&&◌}
use borrow.Author.Tests.{tests}
use Rattle.std.proofs.lemmas.Iterator.{YieldsList-from_slice}
use Rattle.std.proofs.lemmas.Iterator.Search.{all_from_yields_List}
use Rattle.bucket.specs.Packing.{has_bits, fits_in}
use Rattle.bucket.proofs.NumberLaws.{all-fits}
use Rattle.bucket.proofs.packing.fits.Goals as goal

pub returns-then-is_width : goal.returns-then-is_width
returns-then-is_width c = let a = c.args in
    all_from_yields_List (has_bits a.w) _ _ _ c.all.ensures.ran (YieldsList-from_slice a.counts.now cc) (λ x b q k. search (rules, tests))
    ∙ all-fits a.w a.counts.now
    ∙ sym (ap (λ (t : Bool). t && fits_in a.w a.counts.now) (sym c.is_width.ensures ∙ c.if-is_width.true))

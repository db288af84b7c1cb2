-- `forms::are_counts` meets its contract: what was found so far and the counts to come decide. Assumes nothing.
use mathlib.Core.Path.{ap, ◌∙◌}
use mathlib.Core.Bool.{Bool, true, ◌&&◌}
use Prim.Native.Nat.{ℕ}
use lib.IntN.{ℤ}
use lib.ListN.{take}
use Rattle.std.proofs.Common.{rules, tests}
use Rattle.std.proofs.lemmas.Iterator.{YieldsList-from_slice}
use Rattle.std.proofs.lemmas.Iterator.Consumers.{fold_from_yields_List}
use Rattle.std.proofs.lemmas.List.{take_min}
use Rattle.filter.specs.Calls.{is_count, all_counts}
use Rattle.filter.proofs.FormLaws.{fold_counts}
use Rattle.filter.proofs.forms.are_counts.Goals as goal

pub returns : goal.returns
returns c = let cs = c.args.counts.now in
    fold_from_yields_List _ (λ (good : Bool) (z : ℤ). good && is_count z) true _ c.fold.ensures.ran
    (YieldsList-from_slice (take c.min-n.result cs) cc) (λ a x b q k. search (rules, tests))
    ∙ fold_counts (take c.min-n.result cs) true
    ∙ ap all_counts (ap (λ (n : ℕ). take n cs) c.min-n.ensures ∙ take_min c.args.size cs)

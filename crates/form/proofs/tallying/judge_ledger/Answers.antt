-- `tallying::judge_ledger` meets its contract: what is there is what the slices hold of it. Assumes nothing.
use mathlib.Core.Path.{◌≡◌, ap, ap₂, ◌∙◌}
use mathlib.Core.Bool.{Bool, ◌&&◌}
use mathlib.Core.List.{List}
use Prim.Native.Nat.{ℕ, ◌*◌, min}
use native.Mathlib.Omega.{arith}
use lib.Dec.{eqb}
use lib.ListN.{length, take, drop, length-take}
use Rattle.std.proofs.lemmas.List.{take_min, drop_min}
use Rattle.bucket.specs.Lists.{part}
use Rattle.filter.specs.Table.{first_eight, ids_of}
use Rattle.ledger.specs.declared.numbers.Numbers.{Numbers}
use Rattle.form.specs.Tallies.{tally_of, tally_there}
use Rattle.form.proofs.JudgeLaws.{known-count, ids-count}
use Rattle.form.proofs.tallying.judge_ledger.Goals as goal

abbrev whole_of : Numbers → Numbers → Bool
whole_of P N = eqb P.demanded N.demanded && eqb P.inquired N.inquired

pub judge_part-requires : goal.judge_part-requires
judge_part-requires c = let demanded = ap (λ (N : Numbers). N.demanded) c.there-part.ensures in
    let inquired = ap (λ (N : Numbers). N.inquired) c.there-part.ensures in
    let n = c.there-part.result.demanded in
    let flags = c.split_at.ensures.back_len in (
      c.requires.0,
      omega (arith, inquired, length-take c.there-part.result.inquired c.args.inquired.now),
      omega (arith, demanded, c.min.ensures, flags, length-take n c.split_at.result.1.now, known-count n c.args.records.now (omega (arith, demanded))),
    )

pub returns : goal.returns
unfolding tally_there
returns c = let a = c.args in
    let P = c.there-part.result in
    let known = take (64 * P.demanded) a.records.now in
    let demanded = ap (λ (N : Numbers). N.demanded) c.there-part.ensures in
    let n : P.demanded ≡ length (ids_of first_eight known) = omega (arith, ids-count known, known-count P.demanded a.records.now (omega (arith, demanded))) in
    let there : c.min.result ≡ min 4096 (length a.marks.now) = omega (arith, c.min.ensures) in
    c.judge_part.ensures
    ∙ ap₂ (λ (m f : List ℕ). tally_of P (whole_of P a.numbers) a.table.now known m f (take P.inquired a.inquired.now))
    (ap (λ (k : ℕ). take k a.marks.now) c.min-marked.ensures
    ∙ take_min c.count.result a.marks.now
    ∙ ap (λ (k : ℕ). take k a.marks.now) (c.count.ensures ∙ ids-count a.table.now))
    (ap₂ (λ (k : ℕ) (l : List ℕ). take k l) n (c.split_at.ensures.back ∙ ap (λ (k : ℕ). drop k a.marks.now) there ∙ drop_min 4096 a.marks.now))
    ∙ ap (λ (P : Numbers).
    let known = take (64 * P.demanded) a.records.now in
    tally_of P (whole_of P a.numbers) a.table.now known (take (length (ids_of first_eight a.table.now)) a.marks.now)
    (part 4096 (length (ids_of first_eight known)) a.marks.now) (take P.inquired a.inquired.now))
    c.there-part.ensures

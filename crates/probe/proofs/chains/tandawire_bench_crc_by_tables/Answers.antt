use Rattle.std.proofs.Common.{◌+◌, ◌*◌, ◌^◌, ap, ◌∙◌, arith}
use Rattle.bucket.specs.Places.{draw, crc_next}
use Rattle.probe.proofs.ChainLaws.{chain_none, chain_more}
use Rattle.bucket.specs.Crc.{crc_by}
use Rattle.bucket.proofs.TableLaws.{crc_by_tables}
use Rattle.probe.proofs.chains.tandawire_bench_crc_by_tables.Goals as goal

pub loop-i-init : goal.loop-i-init
loop-i-init c = (omega arith, omega arith, chain_none crc_next 1)

pub loop-i-preserved : goal.loop-i-preserved
loop-i-preserved c = let at = c.loop-i in
    let x = at.d * 2 ^ 32 + at.i in (
      omega arith,
      omega arith,
      c.crc_by-d.ensures ∙ ap (λ t. crc_by t x) c.tables-tab.ensures ∙ crc_by_tables x
          ∙ chain_more crc_next 1 at.d at.i at.invariant.2,
    )

pub returns : goal.returns
returns c = let at = c.loop-i in
    at.invariant.2 ∙ ap (draw crc_next 1) (omega arith)

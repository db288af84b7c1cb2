use Rattle.std.proofs.Common.{ap, ◌∙◌, arith}
use Rattle.bucket.specs.Places.{draw, crc_next}
use Rattle.probe.proofs.ChainLaws.{chain_none, chain_more}
use Rattle.probe.proofs.chains.tandawire_bench_crc.Goals as goal

pub loop-i-init : goal.loop-i-init
loop-i-init c = (omega arith, omega arith, chain_none crc_next 1)

pub loop-i-preserved : goal.loop-i-preserved
loop-i-preserved c = let at = c.loop-i in
    (omega arith, omega arith, c.crc-d.ensures ∙ chain_more crc_next 1 at.d at.i at.invariant.2)

pub returns : goal.returns
returns c = let at = c.loop-i in
    at.invariant.2 ∙ ap (draw crc_next 1) (omega arith)

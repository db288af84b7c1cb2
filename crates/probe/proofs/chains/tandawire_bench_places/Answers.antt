use Rattle.std.proofs.Common.{◌≡◌, ℕ, ◌+◌, ◌%◌, ◌^◌, min, List, ap, ◌∙◌, arith}
use lib.Bits.{bit_xor}
use Rattle.bucket.specs.Crc.{next_by}
use Rattle.bucket.specs.Lists.{pad}
use Rattle.bucket.specs.Places.{draw, places_by}
use Rattle.bucket.proofs.PlaceLaws.{places_by_tables}
use Rattle.probe.specs.Chains.{mixed, strided}
use Rattle.probe.proofs.ChainLaws.{chain_none, chain_more}
use Rattle.probe.proofs.chains.tandawire_bench_places.Goals as goal

pub loop-i-init : goal.loop-i-init
loop-i-init c = (omega arith, omega arith, chain_none (strided c.args.size c.args.k) 1)

pub loop-i-preserved : goal.loop-i-preserved
loop-i-preserved c = let args = c.args in
    let at = c.loop-i in
    let k = min 4 args.k in
    let drawn : c.places-p.result ≡ pad 4 (places_by (next_by c.tables-tab.result) k args.size at.d) =
    c.places-p.ensures in (
      omega arith,
      omega arith,
      c.stride-d.ensures
          ∙ ap (λ (p : List ℕ). bit_xor ((at.d + 0x9E3779B9) % 2 ^ 32) (mixed p))
          (drawn ∙ ap (λ (t : List ℕ). pad 4 (places_by (next_by t) k args.size at.d)) c.tables-tab.ensures
          ∙ ap (pad 4) (places_by_tables k args.size at.d))
          ∙ chain_more (strided args.size args.k) 1 at.d at.i at.invariant.2,
    )

pub returns : goal.returns
returns c = let args = c.args in
    let at = c.loop-i in
    at.invariant.2 ∙ ap (draw (strided args.size args.k) 1) (omega arith)

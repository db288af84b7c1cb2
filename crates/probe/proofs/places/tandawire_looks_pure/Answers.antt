-- `probe::places::tandawire_looks_pure` meets its contract: the tables are the CRC's, and the count is passed on as its bits. Assumes nothing.
use Rattle.std.proofs.Common.{ℕ, min, List, ap, ◌∙◌, w64}
use mir.ValLaws.{to_z-of_z}
use Rattle.bucket.specs.Bucket.{bucket, looks_pure_by}
use Rattle.bucket.specs.Crc.{crc_by, next_by}
use Rattle.bucket.proofs.PurityLaws.{pure_by_tables}
use Rattle.probe.proofs.places.tandawire_looks_pure.Goals as goal

pub returns : goal.returns
returns c = let b = bucket c.args.idsum c.args.hashsum c.args.count in
    rw (to_z-of_z w64 c.args.count c.ranges.count) at c.looks_pure.ensures
    ∙ ap (λ (t : List ℕ). looks_pure_by (crc_by t) (next_by t) (min 4 c.args.k) c.args.size c.args.i b) c.tables-tab.ensures
    ∙ pure_by_tables (min 4 c.args.k) c.args.size c.args.i b

-- `places::Tables::hash_at` meets its contract: the definition makes the same test. Assumes nothing.
use mathlib.Core.Path.{sym, ap, ◌∙◌}
use Rattle.bucket.specs.Digits.{groups}
use Rattle.filter.specs.Table.{hashes_of}
use Rattle.session.proofs.PlaceLaws.{first-placed, second_placed, hash-first, hash_second}
use Rattle.session.proofs.places.Tables.hash_at.Goals as goal

pub nth_hash-requires : goal.nth_hash-requires
nth_hash-requires c = first-placed c.args.self.table.now c.args.self.known.now c.args.p c.if-p-lt-RECORDS.true c.requires

pub returns-then-p-lt-RECORDS : goal.returns-then-p-lt-RECORDS
returns-then-p-lt-RECORDS c = let a = c.args in
    c.nth_hash.ensures ∙ sym (ap (groups 8 64) (hash-first (hashes_of a.self.table.now) (hashes_of a.self.known.now) a.p c.if-p-lt-RECORDS.true))

pub nth_hash-requires-2 : goal.nth_hash-requires-2
nth_hash-requires-2 c = second_placed c.args.self.table.now c.args.self.known.now c.args.p c.if-p-lt-RECORDS.false c.requires

pub returns : goal.returns
returns c = let a = c.args in
    c.nth_hash-2.ensures ∙ sym (ap (groups 8 64) (hash_second (hashes_of a.self.table.now) (hashes_of a.self.known.now) a.p c.if-p-lt-RECORDS.false))

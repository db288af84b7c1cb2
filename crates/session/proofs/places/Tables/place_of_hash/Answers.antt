-- `places::place_of_hash` meets its contract: the hash at the place of its ID is compared. Assumes nothing.
use mathlib.Core.Path.{refl, sym, ◌∙◌}
use native.Mathlib.Omega.{arith}
use Rattle.std.proofs.Common.{rules}
use Rattle.bucket.specs.Digits.{joined}
use Rattle.bucket.proofs.TestLaws.{test_refused, test_granted}
use Rattle.session.proofs.PlaceLaws.{table-short, id_of_hash, place-placed, place-short, hash-same, hash-placed, hash_other, hash-nowhere}
use Rattle.session.proofs.places.Tables.place_of_hash.Goals as goal

pub returns-in_err-p : goal.returns-in_err-p
returns-in_err-p c = let a = c.args in
    rw c.from_residual.ensures
    (sym (hash-nowhere a.self.table.now a.self.known.now (joined 8 a.hash.now) (id_of_hash a.hash.now c.requires c.number_at.ensures) (sym c.in_err-p.ensures) (omega arith)))

pub hash_at-requires : goal.hash_at-requires
hash_at-requires c = let f = c.in_ok-p.ensures in
    place-placed c.args.self.table.now c.args.self.known.now c.number_at.result (table-short c.args.self.table.now c.args.self.table_good) (table-short c.args.self.known.now c.args.self.known_good) f.0 f.1

pub returns-then-ne : goal.returns-then-ne
returns-then-ne c = let a = c.args in
    let f = c.in_ok-p.ensures in
    sym (hash_other a.self.table.now a.self.known.now (joined 8 a.hash.now) (id_of_hash a.hash.now c.requires c.number_at.ensures) f.0 f.1
    (sym (hash-same _ (place-short a.self.table.now a.self.known.now c.in_ok-p.p) c.hash_at.ensures a.hash.now c.requires (λ n. search rules)) ∙ test_refused refl (sym c.ne.ensures ∙ c.if-ne.true)))

pub returns : goal.returns
returns c = let a = c.args in
    let f = c.in_ok-p.ensures in (
      hash-placed a.self.table.now a.self.known.now (joined 8 a.hash.now) (id_of_hash a.hash.now c.requires c.number_at.ensures) f.0 f.1
          (sym (hash-same _ (place-short a.self.table.now a.self.known.now c.in_ok-p.p) c.hash_at.ensures a.hash.now c.requires (λ n. search rules)) ∙ test_granted refl (sym c.ne.ensures ∙ c.if-ne.false)),
      f.1,
    )

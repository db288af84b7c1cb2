-- `places::place_of` meets its contract: the table decides first, then the demanded hashes. Assumes nothing.
use mathlib.Core.Path.{sym}
use native.Mathlib.Omega.{arith}
use Rattle.filter.specs.Table.{first_eight, ids_of}
use Rattle.session.proofs.PlaceLaws.{table-short, index-within, place-first, place_second, place_none}
use Rattle.session.proofs.places.Tables.place_of.Goals as goal

pub returns-in-Some : goal.returns-in-Some
returns-in-Some c = let a = c.args in
    let f = c.in-Some.ensures in
    (place-first (ids_of first_eight a.self.table.now) (ids_of first_eight a.self.known.now) a.id f.1 f.0, omega (arith, index-within a.self.table.now a.id f, table-short a.self.table.now a.self.table_good))

pub returns-in_err-q : goal.returns-in_err-q
returns-in_err-q c = let a = c.args in
    rw c.from_residual.ensures (sym (place_none (ids_of first_eight a.self.table.now) (ids_of first_eight a.self.known.now) a.id c.in_default.ensures c.in_err-q.ensures))

pub overflow_add-result : goal.overflow_add-result
overflow_add-result c = omega (arith, index-within c.args.self.known.now c.args.id c.in_ok-q.ensures, table-short c.args.self.known.now c.args.self.known_good)

pub returns : goal.returns
returns c = let a = c.args in
    let f = c.in_ok-q.ensures in
    (place_second (ids_of first_eight a.self.table.now) (ids_of first_eight a.self.known.now) a.id c.in_default.ensures f.1 f.0, omega (arith, index-within a.self.known.now a.id f, table-short a.self.known.now a.self.known_good))

-- `filter::table::count` meets its contract: whole hashes are as many as 64 goes into the bytes. Assumes nothing.
use mathlib.Core.Path.{sym}
use Rattle.filter.proofs.TableLaws.{hashes-length}
use Rattle.filter.proofs.table.count.Goals as goal

pub returns : goal.returns
returns c = sym (hashes-length c.args.table.now)

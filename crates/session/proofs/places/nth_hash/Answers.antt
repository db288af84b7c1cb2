-- `places::nth_hash` meets its contract: the bytes are those of the number that they make. Assumes nothing.
use mathlib.Core.Path.{sym, ap, ◌∙◌}
use Prim.Native.Nat.{◌*◌}
use native.Mathlib.Omega.{arith}
use Rattle.bucket.specs.Digits.{groups}
use Rattle.filter.proofs.TableLaws.{hash_at_lem}
use Rattle.session.proofs.ChunkLaws.{lent}
use Rattle.session.proofs.PlaceLaws.{bytes_back}
use Rattle.session.proofs.places.nth_hash.Goals as goal

pub returns : goal.returns
returns c = let s = c.args.hashes.now in
    let i = c.args.i in
    lent (64 * i) 64 s ∙ sym (ap (groups 8 64) (hash_at_lem s i (omega (arith, c.requires))) ∙ bytes_back (64 * i) s c.requires (λ n. (c.type_inv.hashes n).fits))

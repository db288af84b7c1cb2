-- `bucket::places::place_count` meets its contract by definition. Assumes nothing.
use mathlib.Core.Path.{refl}
use Rattle.bucket.specs.Places.{place_count}
use Rattle.bucket.proofs.places.place_count.Goals as goal

pub returns : goal.returns
unfolding place_count
returns c = refl

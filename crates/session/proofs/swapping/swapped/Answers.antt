-- `swapping::swapped` meets its contract: the next size, the next salt, and one swap more. Assumes nothing.
use Rattle.session.proofs.swapping.swapped.Goals as goal

pub returns : goal.returns
returns c = rw (c.next_size.ensures, c.next_salt.ensures)

-- `swapping::next_salt` meets its contract: it makes the definition's test. Assumes nothing.
use borrow.Author.Tests.{eq-eqb, ne_eqb}
use Rattle.ledger.specs.Session.{next_salt}
use Rattle.session.proofs.swapping.next_salt.Goals as goal

pub returns-then-salt-eq63 : goal.returns-then-salt-eq63
unfolding next_salt
returns-then-salt-eq63 c = rw (eq-eqb _ _ c.if-salt-eq63.true)

pub returns-else-salt-eq63 : goal.returns-else-salt-eq63
unfolding next_salt
returns-else-salt-eq63 c = rw (ne_eqb _ _ c.if-salt-eq63.false)

-- `reading::read_difference` meets its contract: the peeling is the definition's, so the verdict is, and each verdict leaves what the definition
-- says. Assumes nothing.
use Rattle.filter.proofs.CallLaws.{read_none, read-complete, read-stuck, read_false_lem}
use Rattle.filter.proofs.reading.read_difference.Goals as goal
use Rattle.filter.proofs.reading.read_difference.Goals.{in-Some+in-False, in_default}

pub returns-in-Complete : goal.returns-in-Complete
returns-in-Complete c = let p = c.peel_difference-p.ensures in
    read-complete c.requires p.0 c.in-Some.is p.1 c.judge-v.ensures c.in-Complete.is

pub returns-in-Stuck : goal.returns-in-Stuck
returns-in-Stuck c = let p = c.peel_difference-p.ensures in
    read-stuck c.requires p.0 c.in-Some.is p.1 c.judge-v.ensures c.in-Stuck.is

pub returns : goal.returns
returns c = let p = c.peel_difference-p.ensures in
    let e = c.clear_all.ensures in
    elim c.match-p.branch [
      | in-Some+in-False w ↦ read_false_lem c.requires p.0 w.in-Some.is p.1 w.judge-v.ensures w.in-False.is e.0 e.1 e.2
      | in_default w ↦ read_none c.requires p.0 p.1 w.in_default.is e.0 e.1 e.2
    ]

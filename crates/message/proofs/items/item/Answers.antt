-- `items::item` meets its contract: what it tests is that the bytes hold the whole item (items_past, items_within). Assumes nothing.
use Rattle.std.proofs.Common.{arith}
use Rattle.std.proofs.Math.Nat.{add-sub_cancel_left}
use Rattle.std.proofs.lemmas.List.{take_rest, drop-drop}
use Rattle.message.proofs.ReachLaws.{items_past, items_within, item-past, item-within}
use Rattle.message.proofs.items.item.Goals as goal
use Rattle.message.proofs.items.item.Goals.{in_default-via-in-Some+else-i-items, in_default-via-in_default}

pub returns-in-Some : goal.returns-in-Some
returns-in-Some c = let a = c.args in
    let got = c.in-Some.ensures.lookup.0 in
    let here = items_within c.requires c.if-i-items.true in
    rw (got.2, take_rest, add-sub_cancel_left, drop-drop) (item-within a.k a.from a.s.now a.i (omega arith))

pub returns-in_default : goal.returns-in_default
returns-in_default c = let a = c.args in
    item-past a.k a.from a.s.now a.i
    (elim c.in_default.branch [
      | in_default-via-in-Some+else-i-items w ↦
          let got = w.in-Some.ensures.lookup.0 in
          let short = items_past c.requires w.if-i-items.false in
          omega arith
      | in_default-via-in_default w ↦ let behind = w.in_default.ensures.lookup.0 in omega arith
    ])

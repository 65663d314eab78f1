use Rattle.hashbag_core.proofs.OccurrenceLemmas.{tally_none}
use Rattle.std.proofs.Common.{sym, subst}
use Rattle.hashbag_table.specs.Tables.{KeepsRoom}
use Rattle.hashbag_core.specs.Held.{cleared}
use Rattle.hashbag_core.proofs.HeldLemmas.{tables_from, room_cleared}
use Rattle.hashbag_core.proofs.bag.HashBag.clear.Goals as goal

pub invariant_of-self : goal.invariant_of-self
invariant_of-self g c = rw c.clear.ensures.empty (tally_none g.met.T.Eq.laws c.self.inside.most c.self.invariant.limit)

pub returns-clause-cleared : goal.returns-clause-cleared
returns-clause-cleared g c = rw (← c.self.view_is) (tables_from c.clear.new.self.tables (cleared c.self.inside.table.tables) c.clear.ensures.newer c.clear.ensures.waiting c.clear.ensures.older c.clear.ensures.built)

pub returns-clause-room : goal.returns-clause-room
returns-clause-room g c =
    rw (← c.self.view_is) (subst (KeepsRoom 0 c.self.inside.table.tables) (sym (tables_from c.clear.new.self.tables (cleared c.self.inside.table.tables) c.clear.ensures.newer c.clear.ensures.waiting c.clear.ensures.older c.clear.ensures.built)) (room_cleared c.self.inside.table.tables))

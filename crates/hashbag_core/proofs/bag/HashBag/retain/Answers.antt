use Rattle.hashbag_core.proofs.RetainLemmas.{total_fits, fewer_retained, tally_retained, is_retained}
use Rattle.hashbag_core.proofs.WalkLemmas.{set_walk_of_bag}
use Rattle.hashbag_core.proofs.bag.HashBag.retain.Goals as goal

pub retain-self-inside-requires-clause-callable : goal.retain-self-inside-requires-clause-callable
retain-self-inside-requires-clause-callable g c = λ walk order.
    let callable = rw (← c.self.view_is) at c.requires.callable in
    callable walk (set_walk_of_bag g.met.T.Eq.laws c.self.inside.table.hasher c.self.inside.table.tables c.self.inside.table.entries walk c.self.inside.len c.self.invariant order)

pub retain-self-inside-requires-clause-fits : goal.retain-self-inside-requires-clause-fits
retain-self-inside-requires-clause-fits g c = total_fits g.met.T.Eq.laws g.F.FnMut c.args.f c.self.inside.table.entries c.self.inside.table.entries c.self.inside.len c.self.invariant

pub invariant_of-self : goal.invariant_of-self
invariant_of-self g c =
    tally_retained g.met.T.Eq.laws g.F.FnMut c.args.f c.self.inside.table.entries c.retain-self-inside.new.self.entries c.self.inside.len c.self.invariant c.retain-self-inside.ensures.counted c.retain-self-inside.ensures.retained c.retain-self-inside.result c.retain-self-inside.ensures.total

pub returns-clause-retained : goal.returns-clause-retained
returns-clause-retained g c =
    rw (← c.self.view_is) (is_retained g.met.T.Eq.laws g.F.FnMut c.args.f c.self.inside.table.entries c.retain-self-inside.new.self.entries c.self.inside.len c.self.invariant c.retain-self-inside.ensures.counted c.retain-self-inside.ensures.retained
    c.self.inside.table.hasher c.retain-self-inside.new.self.hasher c.self.inside.table.tables c.retain-self-inside.new.self.tables c.retain-self-inside.result c.retain-self-inside.ensures.total c.retain-self-inside.ensures.hasher)

pub returns-clause-len : goal.returns-clause-len
returns-clause-len g c =
    rw (← c.self.view_is) (fewer_retained g.met.T.Eq.laws g.F.FnMut c.args.f c.self.inside.table.entries c.retain-self-inside.new.self.entries c.self.inside.len c.self.invariant c.retain-self-inside.ensures.counted c.retain-self-inside.ensures.retained)

pub returns-clause-waiting : goal.returns-clause-waiting
returns-clause-waiting g c = rw (← c.self.view_is) c.retain-self-inside.ensures.waiting

pub returns-clause-room : goal.returns-clause-room
returns-clause-room g c = rw (← c.self.view_is) c.retain-self-inside.ensures.room

pub returns-clause-in_place : goal.returns-clause-in_place
returns-clause-in_place g c = rw (← c.self.view_is) c.retain-self-inside.ensures.in_place

use Rattle.std.proofs.Common.{◌≡◌, subst}
use Rattle.hashbag_slots.specs.Slots.{slot_entry}
use Rattle.hashbag_slots.specs.Probed.{IfFound}
use Rattle.hashbag_table.specs.declared.table.Spot.TheVariants.{Newer}
use Rattle.hashbag_table.specs.Named.{named_entry}
use Rattle.hashbag_table.specs.Tables.{HoldsIn, slot_in}
use Rattle.hashbag_table.proofs.KeyLemmas.{named_fits, named_before, named_raised}
use Rattle.hashbag_table.proofs.table.Table.add_key.Goals.{In-Found}
use Rattle.hashbag_table.proofs.table.Table.add_key.Goals as goal

-- a slot that holds the named value was found
found : (g : _) (c : In-Found g) → slot_entry (slot_in c.args.self.now.tables (Newer c.in-Found.place)) ≡ named_entry (g.Q.Key.names c.args.key) c.args.self.now.entries
found g c = subst (λ r. IfFound r (λ p. slot_entry (slot_in c.args.self.now.tables (Newer p)) ≡ named_entry (g.Q.Key.names c.args.key) c.args.self.now.entries)) c.in-Found.is c.probe_path-first.ensures.map

held : (g : _) (c : In-Found g) → HoldsIn (g.Q.Key.names c.args.key) c.args.self.now.tables (Newer c.in-Found.place)
held g c = subst (λ r. IfFound r (λ p. HoldsIn (g.Q.Key.names c.args.key) c.args.self.now.tables (Newer p))) c.in-Found.is c.probe_path-first.ensures.held

pub raise_spot-before-requires-clause-fits : goal.raise_spot-before-requires-clause-fits
raise_spot-before-requires-clause-fits g c =
    named_fits g.T.PartialEq.eq g.met.T.Eq.laws (g.Q.Key.names c.args.key) (g.met.Q.Key.names_one c.args.key) c.args.n c.args.self.now (Newer c.in-Found.place) (found g (goal.at.raise_spot-before-requires-clause-fits g c).In-Found) c.requires.fits

pub returns-in-Found-clause-before : goal.returns-in-Found-clause-before
returns-in-Found-clause-before g c =
    let at = (goal.at.returns-in-Found-clause-before g c).In-Found in
    named_before g.T.PartialEq.eq g.met.T.Eq.laws (g.Q.Key.names c.args.key) (g.met.Q.Key.names_one c.args.key) c.args.n c.args.self.now (Newer c.in-Found.place) (found g at) (held g at) c.raise_spot-before.result c.raise_spot-before.ensures.before

pub returns-in-Found-clause-added : goal.returns-in-Found-clause-added
returns-in-Found-clause-added g c =
    let at = (goal.at.returns-in-Found-clause-added g c).In-Found in
    named_raised g.T.PartialEq.eq g.met.T.Eq.laws (g.Q.Key.names c.args.key) (g.met.Q.Key.names_one c.args.key) c.args.n c.args.self.now (Newer c.in-Found.place) (found g at) (held g at) c.raise_spot-before.result c.raise_spot-before.ensures.before
    c.raise_spot-before.new.self c.probe_path-first.ensures.counted c.raise_spot-before.ensures.after c.raise_spot-before.ensures.map c.raise_spot-before.ensures.hasher c.raise_spot-before.ensures.counted

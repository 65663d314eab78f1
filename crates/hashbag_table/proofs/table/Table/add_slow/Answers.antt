use Rattle.std.proofs.Common.{sym}
use Rattle.hashbag_slots.specs.Hashing.{hash_under}
use Rattle.hashbag_table.proofs.AddLemmas.{adds_raised, adds_stored}
use Rattle.hashbag_table.proofs.SpotLemmas.{count_absent}
use Rattle.hashbag_table.proofs.RaisedLemmas.{raised_fits, raised_before}
use Rattle.hashbag_table.proofs.table.Table.add_slow.Goals as goal

pub spot_after_probe-requires-clause-hashed : goal.spot_after_probe-requires-clause-hashed
unfolding hash_under
spot_after_probe-requires-clause-hashed g c = c.requires.hashed

pub insert_probed-requires-clause-absent : goal.insert_probed-requires-clause-absent
insert_probed-requires-clause-absent g c = sym (c.in_default.ensures.map)

pub raise_spot-before-requires-clause-fits : goal.raise_spot-before-requires-clause-fits
raise_spot-before-requires-clause-fits g c =
    raised_fits g.T.PartialEq.eq g.met.T.Eq.laws c.args.value c.args.n c.args.self.now.entries c.args.self.now.tables c.in-Some.spot c.in-Some.ensures.map c.requires.fits

pub returns-in-Some-clause-before : goal.returns-in-Some-clause-before
returns-in-Some-clause-before g c =
    raised_before g.T.PartialEq.eq g.met.T.Eq.laws c.args.value c.args.n c.args.self.now.entries c.args.self.now.tables c.in-Some.spot c.in-Some.ensures.map c.in-Some.ensures.held c.raise_spot-before.result c.raise_spot-before.ensures.before

pub returns-in-Some-clause-added : goal.returns-in-Some-clause-added
returns-in-Some-clause-added g c =
    adds_raised g.T.PartialEq.eq g.met.T.Eq.laws c.args.value c.args.n c.args.self.now c.raise_spot-before.new.self c.in-Some.spot c.in-Some.ensures.map c.in-Some.ensures.held c.raise_spot-before.result c.raise_spot-before.ensures.before
    c.show_invariant.ensures.counted c.raise_spot-before.ensures.after c.raise_spot-before.ensures.map c.raise_spot-before.ensures.hasher c.raise_spot-before.ensures.counted

pub returns-clause-before : goal.returns-clause-before
returns-clause-before g c = sym (count_absent g.T.PartialEq.eq c.args.value c.args.self.now.entries (sym (c.in_default.ensures.map)))

pub returns-clause-added : goal.returns-clause-added
returns-clause-added g c = adds_stored g.T.PartialEq.eq g.met.T.Eq.laws c.args.value c.args.n c.args.self.now c.insert_probed.new.self (sym (c.in_default.ensures.map)) c.in_ok-insert_probed.ensures.stored

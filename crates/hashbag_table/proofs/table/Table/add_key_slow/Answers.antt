use Rattle.std.proofs.Common.{sym, ◌∙◌}
use Rattle.hashbag_slots.proofs.Hashing.{fed_alike}
use Rattle.hashbag_table.proofs.KeyLemmas.{named_absent, named_found, named_fits, named_before, named_raised, named_arrived}
use Rattle.hashbag_table.proofs.table.Table.add_key_slow.Goals as goal

pub raise_spot-before-requires-clause-fits : goal.raise_spot-before-requires-clause-fits
raise_spot-before-requires-clause-fits g c =
    named_fits g.T.PartialEq.eq g.met.T.Eq.laws (g.Q.Key.names c.args.key) (g.met.Q.Key.names_one c.args.key) c.args.n c.args.self.now c.in-Some.spot c.in-Some.ensures.map c.requires.fits

pub returns-in-Some-clause-before : goal.returns-in-Some-clause-before
returns-in-Some-clause-before g c =
    named_before g.T.PartialEq.eq g.met.T.Eq.laws (g.Q.Key.names c.args.key) (g.met.Q.Key.names_one c.args.key) c.args.n c.args.self.now c.in-Some.spot c.in-Some.ensures.map c.in-Some.ensures.held c.raise_spot-before.result c.raise_spot-before.ensures.before

pub returns-in-Some-clause-added : goal.returns-in-Some-clause-added
returns-in-Some-clause-added g c =
    named_raised g.T.PartialEq.eq g.met.T.Eq.laws (g.Q.Key.names c.args.key) (g.met.Q.Key.names_one c.args.key) c.args.n c.args.self.now c.in-Some.spot c.in-Some.ensures.map c.in-Some.ensures.held c.raise_spot-before.result c.raise_spot-before.ensures.before
    c.raise_spot-before.new.self c.show_invariant.ensures.counted c.raise_spot-before.ensures.after c.raise_spot-before.ensures.map c.raise_spot-before.ensures.hasher c.raise_spot-before.ensures.counted

pub insert_probed-requires-clause-hashed : goal.insert_probed-requires-clause-hashed
insert_probed-requires-clause-hashed g c =
    c.requires.hashed ∙ sym (fed_alike g.T.Hash.hash_input g.Q.Hash.hash_input g.S.BuildHasher g.S.Hasher.Hasher c.args.self.now.hasher _ c.args.key (g.met.Q.Key.hashed_alike c.args.key _ c.in_ok-value.ensures))

pub insert_probed-requires-clause-absent : goal.insert_probed-requires-clause-absent
insert_probed-requires-clause-absent g c =
    sym (c.in_default.ensures.map ∙ named_found g.T.PartialEq.eq g.met.T.Eq.laws (g.Q.Key.names c.args.key) (g.met.Q.Key.names_one c.args.key) _ c.in_ok-value.ensures c.args.self.now.entries)

pub returns-clause-before : goal.returns-clause-before
returns-clause-before g c = sym (named_absent (g.Q.Key.names c.args.key) c.args.self.now.entries (sym c.in_default.ensures.map))

pub returns-clause-added : goal.returns-clause-added
returns-clause-added g c =
    named_arrived g.T.PartialEq.eq g.met.T.Eq.laws (g.Q.Key.names c.args.key) (g.met.Q.Key.names_one c.args.key) c.args.self.now c.insert_probed.new.self _ c.args.n c.in_ok-value.ensures (sym c.in_default.ensures.map)
    c.in_ok-insert_probed.ensures.stored

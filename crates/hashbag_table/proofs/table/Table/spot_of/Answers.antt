use Rattle.std.proofs.Common.{sym, ap, ◌∙◌}
use Rattle.hashbag_slots.specs.Hashing.{hash_under}
use Rattle.hashbag_slots.proofs.Hashing.{hash_named}
use Rattle.hashbag_table.proofs.table.Table.spot_of.Goals as goal

pub find_small-requires-clause-reached : goal.find_small-requires-clause-reached
find_small-requires-clause-reached g c = record {
  hash = hash_under g.T.Hash.hash_input g.S.BuildHasher g.S.Hasher.Hasher c.self.inside.hasher;
  alike = hash_named g.T.Hash.hash_input g.Q.Hash.hash_input g.S.BuildHasher g.S.Hasher.Hasher c.self.inside.hasher c.args.key (g.Q.Key.names c.args.key) (g.met.Q.Key.hashed_alike c.args.key) c.args.hash (c.requires.hashed ∙ sym (ap (λ t. hash_under g.Q.Hash.hash_input g.S.BuildHasher g.S.Hasher.Hasher t.hasher c.args.key) c.self.view_is));
  reached = c.self.invariant.kept.tables.newer_reached;
}

pub find_large-requires : goal.find_large-requires
find_large-requires g c = record {
  reached = record {
    hash = hash_under g.T.Hash.hash_input g.S.BuildHasher g.S.Hasher.Hasher c.self.inside.hasher;
    alike = hash_named g.T.Hash.hash_input g.Q.Hash.hash_input g.S.BuildHasher g.S.Hasher.Hasher c.self.inside.hasher c.args.key (g.Q.Key.names c.args.key) (g.met.Q.Key.hashed_alike c.args.key) c.args.hash (c.requires.hashed ∙ sym (ap (λ t. hash_under g.Q.Hash.hash_input g.S.BuildHasher g.S.Hasher.Hasher t.hasher c.args.key) c.self.view_is));
    reached = c.self.invariant.kept.tables.newer_reached;
  };
}

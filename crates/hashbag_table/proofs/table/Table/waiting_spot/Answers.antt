use Rattle.std.proofs.Common.{◌-◌, None, sym, ap, subst, ◌∙◌}
use Rattle.hashbag_slots.specs.Hashing.{hash_under}
use Rattle.hashbag_slots.specs.Slots.{slot_at, is_live, slot_entry, IsAbsent}
use Rattle.hashbag_slots.proofs.Maps.{lookup-IsAbsent}
use Rattle.hashbag_slots.proofs.Probing.{holder}
use Rattle.hashbag_table.specs.Named.{named_entry}
use Rattle.hashbag_table.proofs.SlotLemmas.{found_older}
use Rattle.hashbag_table.proofs.SpotLemmas.{later, waiting_at}
use Rattle.hashbag_table.proofs.table.Table.waiting_spot.Goals as goal

pub returns-in-Some-clause-map : goal.returns-in-Some-clause-map
returns-in-Some-clause-map g c =
    let eq = g.T.PartialEq.eq in let names = g.Q.Key.names c.args.key in let t = c.self.invariant.kept.tables in let p = c.in-Some.place in
    let hash = hash_under g.T.Hash.hash_input g.S.BuildHasher g.S.Hasher.Hasher c.self.inside.hasher in
    let h = holder names (slot_at c.self.inside.older.slots p) c.in-Some.ensures.found.1 in
    let le = later eq hash c.self.inside.newer c.self.inside.older c.self.inside.carried_to c.self.invariant.kept p (ap is_live h.2) in
    let apart = lookup-IsAbsent names c.self.inside.newer.slots (subst (λ m. IsAbsent names m.tables.newer) (sym c.self.view_is) c.requires.absent) in
    sym (ap (λ m. slot_entry (slot_at m.tables.waiting (p - c.self.inside.carried_to))) c.self.view_is)
    ∙ ap slot_entry (waiting_at eq hash c.self.inside.newer c.self.inside.older c.self.inside.carried_to c.self.invariant.kept p le)
    ∙ found_older names (slot_entry (slot_at c.self.inside.older.slots p)) c.self.inside.newer.slots c.self.inside.older.slots c.self.inside.carried_to t.carried_within t.carried_not_live (sym apart) c.in-Some.ensures.map
    ∙ ap (λ m. named_entry names m.entries) c.self.view_is

pub returns-in-None-clause-map : goal.returns-in-None-clause-map
returns-in-None-clause-map g c =
    let names = g.Q.Key.names c.args.key in let t = c.self.invariant.kept.tables in
    let apart = lookup-IsAbsent names c.self.inside.newer.slots (subst (λ m. IsAbsent names m.tables.newer) (sym c.self.view_is) c.requires.absent) in
    found_older names None c.self.inside.newer.slots c.self.inside.older.slots c.self.inside.carried_to t.carried_within t.carried_not_live (sym apart) c.in-None.ensures.map
    ∙ ap (λ m. named_entry names m.entries) c.self.view_is

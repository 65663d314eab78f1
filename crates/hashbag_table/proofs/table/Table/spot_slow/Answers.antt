use Rattle.std.proofs.Common.{◌-◌, None, drop, sym, ap, ◌∙◌}
use Rattle.hashbag_slots.specs.Hashing.{hash_under}
use Rattle.hashbag_slots.specs.Slots.{slot_at, is_live, slot_entry, entries}
use Rattle.hashbag_slots.proofs.Maps.{lookup-IsAbsent}
use Rattle.hashbag_slots.proofs.Probing.{holder}
use Rattle.hashbag_table.specs.Named.{named_entry}
use Rattle.hashbag_table.proofs.HintLemmas.{older_only}
use Rattle.hashbag_table.proofs.SlotLemmas.{found_newer, found_older}
use Rattle.hashbag_table.proofs.SpotLemmas.{later, waiting_at}
use Rattle.hashbag_table.proofs.table.Table.spot_slow.Goals as goal

pub returns-in-Some-clause-map : goal.returns-in-Some-clause-map
returns-in-Some-clause-map g c =
    let eq = g.T.PartialEq.eq in let names = g.Q.Key.names c.args.key in let i = c.self.inside in let t = c.self.invariant.kept.tables in let p = c.in-Some.place in
    let hash = hash_under g.T.Hash.hash_input g.S.BuildHasher g.S.Hasher.Hasher i.hasher in
    let h = holder names (slot_at i.older.slots p) c.in-Some.ensures.found.1 in
    let le = later eq hash i.newer i.older i.carried_to c.self.invariant.kept p (ap is_live h.2) in
    let apart = lookup-IsAbsent names i.newer.slots (older_only eq g.met.T.Eq.laws names (g.met.Q.Key.names_one c.args.key) i.older.slots i.newer.slots t.apart p c.in-Some.ensures.found.1) in
    sym (ap (λ m. slot_entry (slot_at m.tables.waiting (p - i.carried_to))) c.self.view_is)
    ∙ ap slot_entry (waiting_at eq hash i.newer i.older i.carried_to c.self.invariant.kept p le)
    ∙ found_older names (slot_entry (slot_at i.older.slots p)) i.newer.slots i.older.slots i.carried_to t.carried_within t.carried_not_live (sym apart) c.in-Some.ensures.map
    ∙ ap (λ m. named_entry names m.entries) c.self.view_is

pub returns-in-Some-find_hashed-clause-map : goal.returns-in-Some-find_hashed-clause-map
returns-in-Some-find_hashed-clause-map g c =
    let names = g.Q.Key.names c.args.key in let n = c.self.inside.newer.slots in let w = drop c.self.inside.carried_to c.self.inside.older.slots in let x = c.in-Some-find_hashed in
    sym (ap (λ t. slot_entry (slot_at t.tables.newer x.place)) c.self.view_is) ∙ found_newer names n (entries w) x.place x.ensures.found x.ensures.map ∙ ap (λ m. named_entry names m.entries) c.self.view_is

pub returns-in-None-clause-map : goal.returns-in-None-clause-map
returns-in-None-clause-map g c =
    let names = g.Q.Key.names c.args.key in let i = c.self.inside in let t = c.self.invariant.kept.tables in
    found_older names None i.newer.slots i.older.slots i.carried_to t.carried_within t.carried_not_live c.in-None.ensures.map c.in_default.ensures.map
    ∙ ap (λ m. named_entry names m.entries) c.self.view_is

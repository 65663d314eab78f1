use Rattle.std.proofs.Common.{◌≡◌, ◌++◌, ℕ, Bool, List, subst, drop}
use Rattle.std.specs.Map.{lookup_entry}
use Rattle.hashbag_slots.specs.declared.probe.Probed.{Probed}
use Rattle.hashbag_slots.specs.declared.probe.Probed.TheVariants.{Found, Absent, Full}
use Rattle.hashbag_slots.specs.declared.slots.Slot.{Slot}
use Rattle.hashbag_slots.specs.Probed.{IfFound, IfFull}
use Rattle.hashbag_slots.specs.Slots.{HoldsAt, IsAbsent, entries, slot_at, slot_entry}
use Rattle.hashbag_table.specs.Named.{named_entry}
use Rattle.hashbag_table.proofs.SlotLemmas.{found_newer}
use Rattle.hashbag_table.proofs.table.Table.probe_path.Goals as goal

-- what is found in the newer table is what the map has
found : {T : Type 0} (names : T → Bool) (n : List (Slot T)) (es : List (T × ℕ)) (r : Probed) → IfFound r (HoldsAt names n)
    → IfFound r (λ p. slot_entry (slot_at n p) ≡ lookup_entry names (entries n)) → IfFound r (λ p. slot_entry (slot_at n p) ≡ named_entry names (entries n ++ es))
found names n es (Found p) held is = found_newer names n es p held is
found names n es (Absent p) held is = tt
found names n es Full held is = tt

pub returns-clause-map : goal.returns-clause-map
returns-clause-map g c =
    let names = g.Q.Key.names c.args.key in let n = c.self.inside.newer.slots in let w = drop c.self.inside.carried_to c.self.inside.older.slots in
    let is = found names n (entries w) c.probe_path.result c.probe_path.ensures.found c.probe_path.ensures.map in
    subst (λ m. IfFound c.probe_path.result (λ p. slot_entry (slot_at m.tables.newer p) ≡ named_entry names m.entries)) c.self.view_is is

-- where no slot is free, the value is in none
where_full : (A B : Type 0) (r : Probed) → IfFull r (A × B) → IfFull r A
where_full A B (Found p) h = tt
where_full A B (Absent p) h = tt
where_full A B Full h = h.0

pub returns-clause-full : goal.returns-clause-full
returns-clause-full g c =
    subst (λ m. IfFull c.probe_path.result (IsAbsent (g.Q.Key.names c.args.key) m.tables.newer)) c.self.view_is (where_full _ _ c.probe_path.result c.probe_path.ensures.full)

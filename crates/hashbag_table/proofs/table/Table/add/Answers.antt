use Rattle.std.proofs.Common.{◌≡◌, ℕ, Bool, List, None, sym, ap, subst, ◌∙◌}
use Rattle.std.specs.Cmp.{IsEquivalence}
use Rattle.std.specs.Map.{lookup_entry}
use Rattle.hashbag_slots.specs.declared.slots.Slot.{Slot}
use Rattle.hashbag_slots.specs.Slots.{IsAbsent, IsFirstFree, entries, slot_entry}
use Rattle.hashbag_slots.specs.Hashing.{hash_under}
use Rattle.hashbag_slots.proofs.Maps.{lookup-IsAbsent}
use Rattle.hashbag_slots.specs.Probed.{IfFound, IfAbsent, IfFull}
use Rattle.hashbag_table.specs.declared.table.Spot.TheVariants.{Newer}
use Rattle.hashbag_table.specs.Named.{named_entry}
use Rattle.hashbag_table.specs.Tables.{HoldsIn, slot_in}
use Rattle.hashbag_table.proofs.CarryLemmas.{arrives_from, ready_alone}
use Rattle.hashbag_table.proofs.AddLemmas.{adds_raised, adds_stored, stores_arrived}
use Rattle.hashbag_table.proofs.RaisedLemmas.{raised_fits, raised_before}
use Rattle.hashbag_table.proofs.SpotLemmas.{count_absent}
use Rattle.hashbag_table.proofs.table.Table.add.Goals.{In-Found, In-Absent, in-Absent+else-can_place_at_once, in_default-first}
use Rattle.hashbag_table.proofs.table.Table.add.Goals as goal

-- a value that is in no slot of the one table is absent
absent : {T : Type 0} (eq : T → T → Bool) (laws : IsEquivalence eq) (v : T) (newer : List (Slot T)) (es : List (T × ℕ)) → es ≡ entries newer → IsAbsent (eq v) newer → lookup_entry (eq v) es ≡ None
absent eq laws v newer es is apart = ap (lookup_entry (eq v)) is ∙ lookup-IsAbsent (eq v) newer apart

pub probe_path-first-requires : goal.probe_path-first-requires
unfolding hash_under
probe_path-first-requires g c = record { hashed = c.hash-hash.ensures }

pub place_at_once-requires-clause-hashed : goal.place_at_once-requires-clause-hashed
unfolding hash_under
place_at_once-requires-clause-hashed g c = c.hash-hash.ensures

pub add_slow-requires : goal.add_slow-requires
unfolding hash_under
add_slow-requires g c = record {
  hashed = c.hash-hash.ensures;
  shown = elim c.match-first-2.branch [
    | in-Absent+else-can_place_at_once w ↦ subst (λ r. IfAbsent r (λ x. IsAbsent (g.T.PartialEq.eq c.args.value) c.args.self.now.tables.newer)) (w.in-Absent.is ∙ sym w.first-is) c.probe_path-first.ensures.absent
    | in_default-first w ↦ subst (λ r. IfAbsent r (λ x. IsAbsent (g.T.PartialEq.eq c.args.value) c.args.self.now.tables.newer)) (sym w.first-is) c.probe_path-first.ensures.absent
  ];
  free = elim c.match-first-2.branch [
    | in-Absent+else-can_place_at_once w ↦ subst (λ r. IfAbsent r (IsFirstFree c.hash-hash.result c.args.self.now.tables.newer)) (w.in-Absent.is ∙ sym w.first-is) c.probe_path-first.ensures.free
    | in_default-first w ↦ subst (λ r. IfAbsent r (IsFirstFree c.hash-hash.result c.args.self.now.tables.newer)) (sym w.first-is) c.probe_path-first.ensures.free
  ];
  full = elim c.match-first-2.branch [
    | in-Absent+else-can_place_at_once w ↦ subst (λ r. IfFull r (IsAbsent (g.T.PartialEq.eq c.args.value) c.args.self.now.tables.newer)) (w.in-Absent.is ∙ sym w.first-is) c.probe_path-first.ensures.full
    | in_default-first w ↦ subst (λ r. IfFull r (IsAbsent (g.T.PartialEq.eq c.args.value) c.args.self.now.tables.newer)) (sym w.first-is) c.probe_path-first.ensures.full
  ];
  positive = c.requires.positive;
  fits = c.requires.fits;
}

-- a slot that holds the value was found, or that it is in none
found : (g : _) (c : In-Found g) → slot_entry (slot_in c.args.self.now.tables (Newer c.in-Found.place)) ≡ named_entry (g.T.PartialEq.eq c.args.value) c.args.self.now.entries
found g c = subst (λ r. IfFound r (λ p. slot_entry (slot_in c.args.self.now.tables (Newer p)) ≡ named_entry (g.T.PartialEq.eq c.args.value) c.args.self.now.entries)) c.in-Found.is c.probe_path-first.ensures.map

held : (g : _) (c : In-Found g) → HoldsIn (g.T.PartialEq.eq c.args.value) c.args.self.now.tables (Newer c.in-Found.place)
held g c = subst (λ r. IfFound r (λ p. HoldsIn (g.T.PartialEq.eq c.args.value) c.args.self.now.tables (Newer p))) c.in-Found.is c.probe_path-first.ensures.held

apart : (g : _) (c : In-Absent g) → IsAbsent (g.T.PartialEq.eq c.args.value) c.args.self.now.tables.newer
apart g c = subst (λ r. IfAbsent r (λ _. IsAbsent (g.T.PartialEq.eq c.args.value) c.args.self.now.tables.newer)) c.in-Absent.is c.probe_path-first.ensures.absent

pub raise_spot-before-requires-clause-fits : goal.raise_spot-before-requires-clause-fits
raise_spot-before-requires-clause-fits g c =
    raised_fits g.T.PartialEq.eq g.met.T.Eq.laws c.args.value c.args.n c.args.self.now.entries c.args.self.now.tables (Newer c.in-Found.place) (found g (goal.at.raise_spot-before-requires-clause-fits g c).In-Found) c.requires.fits

pub returns-in-Found-clause-before : goal.returns-in-Found-clause-before
returns-in-Found-clause-before g c =
    let at = (goal.at.returns-in-Found-clause-before g c).In-Found in
    raised_before g.T.PartialEq.eq g.met.T.Eq.laws c.args.value c.args.n c.args.self.now.entries c.args.self.now.tables (Newer c.in-Found.place) (found g at) (held g at) c.raise_spot-before.result c.raise_spot-before.ensures.before

pub returns-in-Found-clause-added : goal.returns-in-Found-clause-added
returns-in-Found-clause-added g c =
    let at = (goal.at.returns-in-Found-clause-added g c).In-Found in
    adds_raised g.T.PartialEq.eq g.met.T.Eq.laws c.args.value c.args.n c.args.self.now c.raise_spot-before.new.self (Newer c.in-Found.place) (found g at) (held g at) c.raise_spot-before.result c.raise_spot-before.ensures.before
    c.probe_path-first.ensures.counted c.raise_spot-before.ensures.after c.raise_spot-before.ensures.map c.raise_spot-before.ensures.hasher c.raise_spot-before.ensures.counted

pub place_at_once-requires-clause-absent : goal.place_at_once-requires-clause-absent
place_at_once-requires-clause-absent g c =
    absent g.T.PartialEq.eq g.met.T.Eq.laws c.args.value c.args.self.now.tables.newer c.args.self.now.entries (c.can_place_at_once.ensures.entries c.if-can_place_at_once.true) (apart g (goal.at.place_at_once-requires-clause-absent g c).In-Absent)

pub returns-then-can_place_at_once-clause-before : goal.returns-then-can_place_at_once-clause-before
returns-then-can_place_at_once-clause-before g c =
    let eq = g.T.PartialEq.eq in let v = c.args.value in let es = c.args.self.now.entries in
    sym (count_absent eq v es (absent eq g.met.T.Eq.laws v c.args.self.now.tables.newer es (c.can_place_at_once.ensures.entries c.if-can_place_at_once.true) (apart g (goal.at.returns-then-can_place_at_once-clause-before g c).In-Absent)))

pub returns-then-can_place_at_once-clause-added : goal.returns-then-can_place_at_once-clause-added
returns-then-can_place_at_once-clause-added g c =
    let eq = g.T.PartialEq.eq in let v = c.args.value in let t = c.args.self.now.tables in let at_once = c.if-can_place_at_once.true in
    let none = absent eq g.met.T.Eq.laws v t.newer c.args.self.now.entries (c.can_place_at_once.ensures.entries at_once) (apart g (goal.at.returns-then-can_place_at_once-clause-added g c).In-Absent) in
    adds_stored eq g.met.T.Eq.laws v c.args.n c.args.self.now c.place_at_once.new.self none
    (stores_arrived eq g.met.T.Eq.laws v c.args.n c.args.self.now c.place_at_once.new.self none c.place_at_once.ensures.entries
    (arrives_from t t c.place_at_once.new.self.tables v c.args.n (ready_alone t (c.can_place_at_once.ensures.none_waits at_once) (c.can_place_at_once.ensures.room at_once)) c.place_at_once.ensures.placed c.place_at_once.ensures.waiting c.place_at_once.ensures.built))

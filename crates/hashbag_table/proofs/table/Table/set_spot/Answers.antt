use Rattle.std.proofs.Common.{◌≡◌, ◌∷◌, [], true, sym, ap, ◌∙◌, drop, length, subst, slice_set}
use Rattle.hashbag_slots.specs.Slots.{slot_at, is_live, slot_entry, recounted}
use Rattle.hashbag_table.specs.Tables.{entries_of, slot_in, Swaps, Writes}
use Rattle.hashbag_table.proofs.SpotLemmas.{at_newer, at_waiting, set_newer_map, set_newer_tables, set_waiting_map, set_waiting_tables, set_waiting_slots}
use Rattle.hashbag_table.proofs.HintLemmas.{recounted_taken, hints_written, hints_waiting}
use Rattle.hashbag_table.proofs.table.Table.set_spot.Goals as goal

-- the slot at the spot is Live
live_newer : (g : _) (c : goal.After-set_at g) → is_live (slot_at c.self.inside.newer.slots c.in-Newer.place) ≡ true
live_newer g c = ap is_live (at_newer (ap (λ t. t.tables) c.self.view_is) c.in-Newer.is) ∙ c.requires.live

live_waiting : (g : _) (c : goal.After-set_at-in-Waiting g) → is_live (slot_at (drop c.self.inside.carried_to c.self.inside.older.slots) c.in-Waiting.place) ≡ true
live_waiting g c = ap is_live (at_waiting (ap (λ t. t.tables) c.self.view_is) c.in-Waiting.is) ∙ c.requires.live

pub invariant_of-self : goal.invariant_of-self
invariant_of-self g c =
    let set = c.set_at in
    record {
      kept = set_newer_tables g.T.PartialEq.eq g.met.T.Eq.laws _ _ _ _ c.self.invariant.kept c.in-Newer.place c.args.n c.requires.positive set.new.self (live_newer g c) set.ensures.after (set.ensures.reached _ c.self.invariant.kept.tables.newer_reached);
      hints = hints_written c.self.invariant.hints set.new.self.slots c.in-Newer.place _ set.ensures.after (live_newer g c) (recounted_taken c.args.n _ (live_newer g c));
    }

pub returns-in-Newer-clause-map : goal.returns-in-Newer-clause-map
returns-in-Newer-clause-map g c e h =
    let set = c.set_at in
    subst (λ t. Swaps t.entries (entries_of set.new.self.slots (drop c.self.inside.carried_to c.self.inside.older.slots)) e ((e.0, c.args.n) ∷ [])) c.self.view_is
    (set_newer_map g.T.PartialEq.eq g.met.T.Eq.laws _ _ _ _ c.self.invariant.kept c.in-Newer.place c.args.n c.requires.positive set.new.self (live_newer g c) set.ensures.after (set.ensures.reached _ c.self.invariant.kept.tables.newer_reached) e
    (ap slot_entry (at_newer (ap (λ t. t.tables) c.self.view_is) c.in-Newer.is) ∙ h))

pub returns-in-Newer-clause-counted : goal.returns-in-Newer-clause-counted
returns-in-Newer-clause-counted g c = (invariant_of-self g c).kept.counted

pub invariant_of-self-in-Waiting : goal.invariant_of-self-in-Waiting
invariant_of-self-in-Waiting g c =
    let set = c.set_at-in-Waiting in
    record {
      kept = set_waiting_tables g.T.PartialEq.eq g.met.T.Eq.laws _ _ _ _ c.self.invariant.kept c.in-Waiting.place c.args.n c.requires.positive set.new.self (live_waiting g c) set.ensures.after (set.ensures.reached _ c.self.invariant.kept.tables.older_reached);
      hints = hints_waiting c.self.invariant.hints set.new.self.slots c.in-Waiting.place _ set.ensures.after;
    }

pub returns-in-Waiting-clause-map : goal.returns-in-Waiting-clause-map
returns-in-Waiting-clause-map g c e h =
    let set = c.set_at-in-Waiting in
    subst (λ t. Swaps t.entries (entries_of c.self.inside.newer.slots (drop c.self.inside.carried_to set.new.self.slots)) e ((e.0, c.args.n) ∷ [])) c.self.view_is
    (set_waiting_map g.T.PartialEq.eq g.met.T.Eq.laws _ _ _ _ c.self.invariant.kept c.in-Waiting.place c.args.n c.requires.positive set.new.self (live_waiting g c) set.ensures.after (set.ensures.reached _ c.self.invariant.kept.tables.older_reached) e
    (ap slot_entry (at_waiting (ap (λ t. t.tables) c.self.view_is) c.in-Waiting.is) ∙ h))

pub returns-in-Waiting-clause-after : goal.returns-in-Waiting-clause-after
returns-in-Waiting-clause-after g c =
    let set = c.set_at-in-Waiting in let i = c.self.inside in let now = c.args.self.now.tables in
    subst (λ q. Writes q (recounted c.args.n (slot_in now q)) now (record { newer = i.newer.slots; waiting = drop i.carried_to set.new.self.slots; older = length set.new.self.slots; built = i.built })) (sym c.in-Waiting.is)
    (ap (λ t. t.tables.newer) c.self.view_is, set_waiting_slots g.T.PartialEq.eq g.met.T.Eq.laws _ _ _ _ c.self.invariant.kept c.in-Waiting.place c.args.n c.requires.positive set.new.self (live_waiting g c) set.ensures.after (set.ensures.reached _ c.self.invariant.kept.tables.older_reached) ∙ ap (λ t. slice_set t.tables.waiting c.in-Waiting.place (recounted c.args.n (slot_at t.tables.waiting c.in-Waiting.place))) c.self.view_is, ap (λ t. t.tables.built) c.self.view_is)

pub returns-in-Waiting-clause-counted : goal.returns-in-Waiting-clause-counted
returns-in-Waiting-clause-counted g c = (invariant_of-self-in-Waiting g c).kept.counted

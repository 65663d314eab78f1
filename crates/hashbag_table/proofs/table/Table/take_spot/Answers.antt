use Rattle.std.proofs.Common.{[], refl, sym, ap, ◌∙◌, drop, length, subst, slice_set}
use Rattle.hashbag_slots.specs.declared.slots.Slot.TheVariants.{Removed}
use Rattle.hashbag_slots.specs.Slots.{is_live}
use Rattle.hashbag_table.specs.Tables.{entries_of, Swaps, Writes}
use Rattle.hashbag_table.proofs.SpotLemmas.{take_newer_map, take_newer_tables, take_waiting_map, take_waiting_tables, take_waiting_slots}
use Rattle.hashbag_table.proofs.HintLemmas.{hints_written, hints_waiting}
use Rattle.hashbag_table.proofs.table.Table.take_spot.Goals as goal

pub invariant_of-self : goal.invariant_of-self
invariant_of-self g c =
    let x = c.take_at-entry in
    record {
      kept = take_newer_tables g.T.PartialEq.eq g.met.T.Eq.laws _ _ _ _ c.self.invariant.kept c.in-Newer.place x.result.0 x.result.1 x.new.self x.ensures.taken x.ensures.after (x.ensures.reached _ c.self.invariant.kept.tables.newer_reached);
      hints = hints_written c.self.invariant.hints x.new.self.slots c.in-Newer.place _ x.ensures.after (ap is_live x.ensures.taken) refl;
    }

pub returns-in-Newer-clause-map : goal.returns-in-Newer-clause-map
returns-in-Newer-clause-map g c =
    let x = c.take_at-entry in
    subst (λ t. Swaps t.entries (entries_of x.new.self.slots (drop c.self.inside.carried_to c.self.inside.older.slots)) (x.result.0, x.result.1) []) c.self.view_is
    (take_newer_map g.T.PartialEq.eq g.met.T.Eq.laws _ _ _ _ c.self.invariant.kept c.in-Newer.place x.result.0 x.result.1 x.new.self x.ensures.taken x.ensures.after (x.ensures.reached _ c.self.invariant.kept.tables.newer_reached))

pub returns-in-Newer-clause-counted : goal.returns-in-Newer-clause-counted
returns-in-Newer-clause-counted g c = (invariant_of-self g c).kept.counted

pub invariant_of-self-in-Waiting : goal.invariant_of-self-in-Waiting
invariant_of-self-in-Waiting g c =
    let x = c.take_at-entry-in-Waiting in
    record {
      kept = take_waiting_tables g.T.PartialEq.eq g.met.T.Eq.laws _ _ _ _ c.self.invariant.kept c.in-Waiting.place x.result.0 x.result.1 x.new.self x.ensures.taken x.ensures.after (x.ensures.reached _ c.self.invariant.kept.tables.older_reached);
      hints = hints_waiting c.self.invariant.hints x.new.self.slots c.in-Waiting.place _ x.ensures.after;
    }

pub returns-in-Waiting-clause-map : goal.returns-in-Waiting-clause-map
returns-in-Waiting-clause-map g c =
    let x = c.take_at-entry-in-Waiting in
    subst (λ t. Swaps t.entries (entries_of c.self.inside.newer.slots (drop c.self.inside.carried_to x.new.self.slots)) (x.result.0, x.result.1) []) c.self.view_is
    (take_waiting_map g.T.PartialEq.eq g.met.T.Eq.laws _ _ _ _ c.self.invariant.kept c.in-Waiting.place x.result.0 x.result.1 x.new.self x.ensures.taken x.ensures.after (x.ensures.reached _ c.self.invariant.kept.tables.older_reached))

pub returns-in-Waiting-clause-after : goal.returns-in-Waiting-clause-after
returns-in-Waiting-clause-after g c =
    let x = c.take_at-entry-in-Waiting in let i = c.self.inside in
    subst (λ q. Writes q Removed c.args.self.now.tables (record { newer = i.newer.slots; waiting = drop i.carried_to x.new.self.slots; older = length x.new.self.slots; built = i.built })) (sym c.in-Waiting.is)
    (ap (λ t. t.tables.newer) c.self.view_is, take_waiting_slots g.T.PartialEq.eq g.met.T.Eq.laws _ _ _ _ c.self.invariant.kept c.in-Waiting.place x.result.0 x.result.1 x.new.self x.ensures.taken x.ensures.after (x.ensures.reached _ c.self.invariant.kept.tables.older_reached) ∙ ap (λ t. slice_set t.tables.waiting c.in-Waiting.place Removed) c.self.view_is, ap (λ t. t.tables.built) c.self.view_is)

pub returns-in-Waiting-clause-counted : goal.returns-in-Waiting-clause-counted
returns-in-Waiting-clause-counted g c = (invariant_of-self-in-Waiting g c).kept.counted

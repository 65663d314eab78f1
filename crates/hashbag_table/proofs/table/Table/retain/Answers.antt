use Rattle.std.proofs.Common.{length, drop, ap, subst, ◌∙◌, arith}
use Rattle.std.proofs.lemmas.List.Sorted.{IsPermutation-refl}
use Rattle.hashbag_slots.specs.Slots.{entries}
use Rattle.hashbag_table.specs.Returned.{Retains}
use Rattle.hashbag_table.specs.Entries.{total}
use Rattle.hashbag_table.specs.Retained.{RetainsSlots}
use Rattle.hashbag_table.specs.Tables.{entries_of, room}
use Rattle.hashbag_table.proofs.KeptLemmas.{WalksBoth, callable_first, callable_waiting, total_both, total_fits, total_left, retains_both, room_left, length_waiting, IsTables-left}
use Rattle.hashbag_table.proofs.RetainLemmas.{slots_kept}
use Rattle.hashbag_table.proofs.HintLemmas.{none_at_once, hints_kept}
use Rattle.hashbag_table.proofs.table.Table.retain.Goals.{After-retain_slots-waiting}
use Rattle.hashbag_table.proofs.table.Table.retain.Goals as goal

pub retain_slots-newer-requires-clause-callable : goal.retain_slots-newer-requires-clause-callable
retain_slots-newer-requires-clause-callable g c =
    let i = c.self.inside in
    callable_first g.F.FnMut c.args.f (entries i.newer.slots) (entries (drop i.carried_to i.older.slots)) _ (ap (λ t. t.entries) c.self.view_is) (c.requires.callable _ (IsPermutation-refl _))

pub retain_slots-newer-requires-clause-fits : goal.retain_slots-newer-requires-clause-fits
retain_slots-newer-requires-clause-fits g c =
    let i = c.self.inside in
    (total_fits g.F.FnMut (entries i.newer.slots) (entries (drop i.carried_to i.older.slots)) _ (ap (λ t. total t.entries) c.self.view_is) c.requires.fits).0

pub retain_slots-waiting-requires-clause-callable : goal.retain_slots-waiting-requires-clause-callable
retain_slots-waiting-requires-clause-callable g c =
    let i = c.self.inside in let a = c.retain_slots-newer in
    callable_waiting g.F.FnMut i.newer i.older a.new.slots i.carried_to c.args.f a.new.f a.ensures.retained _ (ap (λ t. t.entries) c.self.view_is) (c.requires.callable _ (IsPermutation-refl _))

pub retain_slots-waiting-requires-clause-fits : goal.retain_slots-waiting-requires-clause-fits
retain_slots-waiting-requires-clause-fits g c =
    let i = c.self.inside in
    (total_fits g.F.FnMut (entries i.newer.slots) (entries (drop i.carried_to i.older.slots)) _ (ap (λ t. total t.entries) c.self.view_is) c.requires.fits).1

-- what the two walks left
walked : (g : _) (c : After-retain_slots-waiting g) → WalksBoth g.F.FnMut c.self.inside.newer c.self.inside.older c.retain_slots-newer.new.slots c.retain_slots-waiting.new.slots c.self.inside.carried_to c.args.f c.retain_slots-newer.new.f c.retain_slots-waiting.new.f
walked g c = record { first = c.retain_slots-newer.ensures.retained; second = c.retain_slots-waiting.ensures.retained }

pub invariant_of-self : goal.invariant_of-self
invariant_of-self g c =
    let both = walked g (goal.at.invariant_of-self g c).After-retain_slots-waiting in let t = c.self.invariant.kept.tables in
    record {
      kept = IsTables-left g.F.FnMut both g.T.PartialEq.eq _ c.self.invariant.kept (c.retain_slots-newer.ensures.reached _ t.newer_reached) (c.retain_slots-waiting.ensures.reached _ t.older_reached);
      hints = hints_kept c.self.invariant.hints c.retain_slots-newer.new.slots.slots c.retain_slots-waiting.new.slots.slots 0 c.retain_slots-newer.ensures.retained.same_length c.retain_slots-waiting.ensures.retained.same_length (λ p lt. c.retain_slots-waiting.ensures.retained.before p lt) (none_at_once _ _);
    }

pub overflow_add-result : goal.overflow_add-result
overflow_add-result g c =
    let left = total_left g.F.FnMut (walked g (goal.at.overflow_add-result g c).After-retain_slots-waiting) in
    let all = ap (λ t. total t.entries) c.self.view_is in let fits = c.requires.fits in
    let x = c.retain_slots-newer.ensures.total in let y = c.retain_slots-waiting.ensures.total in
    omega (arith, left, all, fits, x, y)

pub returns-clause-retained : goal.returns-clause-retained
returns-clause-retained g c =
    subst (λ t. Retains g.F.FnMut c.args.f t.entries (entries_of c.retain_slots-newer.new.slots.slots (drop c.self.inside.carried_to c.retain_slots-waiting.new.slots.slots))) c.self.view_is
    (retains_both g.F.FnMut (walked g (goal.at.returns-clause-retained g c).After-retain_slots-waiting))

pub returns-clause-total : goal.returns-clause-total
returns-clause-total g c =
    let a = c.retain_slots-newer in let b = c.retain_slots-waiting in
    let both = total_both g.F.FnMut (entries a.new.slots.slots) (entries (drop c.self.inside.carried_to b.new.slots.slots)) in
    omega (arith, a.ensures.total, b.ensures.total, both)

pub returns-clause-counted : goal.returns-clause-counted
returns-clause-counted g c = (invariant_of-self g c).kept.counted

pub returns-clause-waiting : goal.returns-clause-waiting
returns-clause-waiting g c = length_waiting g.F.FnMut (walked g (goal.at.returns-clause-waiting g c).After-retain_slots-waiting) ∙ ap (λ t. length t.tables.waiting) c.self.view_is

pub returns-clause-room : goal.returns-clause-room
returns-clause-room g c =
    let more = room_left g.F.FnMut (walked g (goal.at.returns-clause-room g c).After-retain_slots-waiting) in
    let was = ap (λ t. room t.tables) c.self.view_is in
    record {
      slots = c.retain_slots-newer.ensures.retained.same_length ∙ ap (λ t. length t.tables.newer) c.self.view_is;
      room = omega (arith, more, was);
      built = ap (λ t. t.tables.built) c.self.view_is;
    }

pub returns-clause-in_place : goal.returns-clause-in_place
returns-clause-in_place g c =
    let i = c.self.inside in let newer = c.retain_slots-newer in let older = c.retain_slots-waiting in
    record {
      newer = subst (λ t. RetainsSlots t.tables.newer newer.new.slots.slots) c.self.view_is (slots_kept g.F.FnMut 0 c.args.f newer.new.f i.newer.slots newer.new.slots.slots newer.ensures.retained);
      waiting = subst (λ t. RetainsSlots t.tables.waiting (drop i.carried_to older.new.slots.slots)) c.self.view_is (slots_kept g.F.FnMut i.carried_to newer.new.f older.new.f i.older.slots older.new.slots.slots older.ensures.retained);
      built = ap (λ t. t.tables.built) c.self.view_is;
    }

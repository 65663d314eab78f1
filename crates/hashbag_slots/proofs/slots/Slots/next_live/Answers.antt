use Rattle.std.proofs.Common.{ℕ, ◌≡◌, ◌≤◌, ◌<◌, false, Option, Some, None, IfSome, IfNone, get_or, subst, arith, take}
use Rattle.std.proofs.lemmas.Option.{IfSome_then}
use Rattle.hashbag_slots.specs.Slots.{is_live, slot_at, IsNextLive}
use Rattle.hashbag_slots.specs.Columns.{IsNextLiveTag}
use Rattle.hashbag_slots.proofs.Paths.{count_bound}
use Rattle.hashbag_slots.proofs.Reading.{next_slot, dead_at}
use Rattle.hashbag_slots.proofs.slots.Slots.next_live.Goals.{After-next_live}
use Rattle.hashbag_slots.proofs.slots.Slots.next_live.Goals as goal

none_then : (r : Option ℕ) {P Q : Type 0} → (P → Q) → IfNone r P → IfNone r Q
none_then None f h = f h
none_then (Some p) f h = tt

found : (g : _) (c : goal.After-next_live g) → IfSome c.next_live.result (IsNextLiveTag (take c.self.inside.slots c.self.inside.tags.items) c.args.from)
found g c = subst (λ us. IfSome c.next_live.result (IsNextLiveTag (take c.self.inside.slots us) c.args.from)) c.as_slice.ensures.value c.next_live.ensures.some

pub returns-clause-some : goal.returns-clause-some
returns-clause-some g c =
    let r = c.next_live.result in
    subst (λ s. IfSome r (IsNextLive s.slots c.args.from)) c.self.view_is (IfSome_then r (found g (goal.at.returns-clause-some g c).After-next_live) (next_slot (take c.self.inside.slots c.self.inside.tags.items) c.self.inside.cells c.self.invariant.shown.agree c.args.from))

pub returns-clause-none : goal.returns-clause-none
returns-clause-none g c =
    let from = c.args.from in let r = c.next_live.result in
    let low = subst (λ us. IfNone r ((q : ℕ) → from ≤ q → get_or (take c.self.inside.slots us) q 0 < 128)) c.as_slice.ensures.value c.next_live.ensures.none in
    subst (λ s. IfNone r ((q : ℕ) → from ≤ q → is_live (slot_at s.slots q) ≡ false)) c.self.view_is
    (none_then r (λ below q a. dead_at (take c.self.inside.slots c.self.inside.tags.items) c.self.inside.cells c.self.invariant.shown.agree q (below q a)) low)

pub returns-clause-bound : goal.returns-clause-bound
returns-clause-bound g c =
    let i = c.self.inside in let most = count_bound _ c.self.invariant.shown.table.count in
    IfSome_then c.next_live.result (found g (goal.at.returns-clause-bound g c).After-next_live) (λ p h. let n = next_slot (take i.slots i.tags.items) i.cells c.self.invariant.shown.agree c.args.from p h in let w = n.within in omega (arith, w, most))

use Rattle.std.proofs.Common.{◌≡◌, ◌+◌, ◌<◌, ◌≤◌, length, drop, sym, ap, subst, ◌∙◌, inl, inr, arith, refl}
use Rattle.std.proofs.lemmas.List.{length-replicate}
use Rattle.hashbag_slots.specs.declared.slots.Slot.TheVariants.{Empty}
use Rattle.hashbag_slots.specs.Slots.{live_count}
use Rattle.hashbag_table.specs.declared.table.TheConstants.{MOST_VALUES}
use Rattle.hashbag_table.specs.Tables.{room, IsLeast}
use Rattle.hashbag_table.proofs.LeastLemmas.{most_is, values_fit}
use Rattle.hashbag_table.proofs.table.Table.reserve.Goals.{After-slots-slots}
use Rattle.hashbag_table.proofs.table.Table.reserve.Goals as goal

-- how many values there are, which fit into the greatest table
fit : (g : _) (c : After-slots-slots g) → (length c.args.self.now.entries ≡ live_count c.self.inside.newer.slots + live_count (drop c.self.inside.carried_to c.self.inside.older.slots)) × (length c.args.self.now.entries ≤ MOST_VALUES)
fit g c =
    let i = c.self.inside in
    values_fit i.newer.slots (drop i.carried_to i.older.slots) c.args.self.now.entries _ (ap (λ t. t.entries) c.self.view_is) c.self.invariant.kept.tables.fits c.slots-slots.ensures.value c.slots-slots.ensures.bound

-- and so do they with what there is room for
pub returns-then-n-room-clause-past_most : goal.returns-then-n-room-clause-past_most
returns-then-n-room-clause-past_most g c some beyond =
    let values = (fit g (goal.at.returns-then-n-room-clause-past_most g c).After-slots-slots).0 in let f = c.self.invariant.kept.tables.fits in
    let a = c.room.ensures ∙ sym (ap (λ t. room t.tables) c.self.view_is) in
    let s = c.slots-slots.ensures.value in let b = c.slots-slots.ensures.bound in
    let few = c.if-n-room.true in let most = most_is in
    absurd (omega (arith, values, f, a, s, b, most, few, beyond))

pub overflow_sub-values : goal.overflow_sub-values
overflow_sub-values g c =
    let most = (fit g (goal.at.overflow_sub-values g c).After-slots-slots).1 in
    omega (arith, most, c.set_len-values.ensures.len, most_is)

pub returns-then-n-room-clause-room : goal.returns-then-n-room-clause-room
returns-then-n-room-clause-room g c =
    omega (arith, c.if-n-room.true, c.room.ensures)

pub returns-then-n-room-clause-reserves : goal.returns-then-n-room-clause-reserves
returns-then-n-room-clause-reserves g c =
    inl (omega (arith, c.if-n-room.true, c.room.ensures), refl)

pub returns-clause-reserves : goal.returns-clause-reserves
returns-clause-reserves g c =
    let more = c.if-n-room.false in let r = c.room.ensures in
    let beyond : room c.args.self.now.tables < c.args.n = omega (arith, more, r) in
    let size = c.move_all_into.ensures.slots ∙ ap length c.in_ok-newer.ensures.slots ∙ length-replicate c.in_ok-least.least Empty in
    let least = subst (λ from. IsLeast from (c.set_len-values.result + c.args.n) c.in_ok-least.least) c.slots-slots.ensures.value c.in_ok-least.ensures.least in
    let same = subst (λ many. IsLeast (length c.self.inside.newer.slots) (many + c.args.n) c.in_ok-least.least) c.set_len-values.ensures.len least in
    inr (
      beyond,
      record {
        least = subst (λ from. IsLeast from (length c.args.self.now.entries + c.args.n) (length c.move_all_into.new.self.tables.newer)) (ap (λ t. length t.tables.newer) c.self.view_is)
            (subst (IsLeast (length c.self.inside.newer.slots) (length c.args.self.now.entries + c.args.n)) (sym size) same);
        packed = c.move_all_into.ensures.packed;
        built = c.move_all_into.ensures.built ∙ ap (λ k. c.args.self.now.tables.built + k) (sym c.move_all_into.ensures.slots);
      },
    )

use Rattle.std.proofs.Common.{◌≡◌, ◌+◌, [], length, sym, ap, subst, ◌∙◌, refl, inl, inr, arith}
use Rattle.std.proofs.lemmas.List.{length-replicate, drop_all}
use Rattle.hashbag_slots.specs.declared.slots.Slot.TheVariants.{Empty}
use Rattle.hashbag_table.specs.Tables.{IsLeast}
use Rattle.hashbag_table.proofs.LeastLemmas.{limit_most, least_bound, least_empty, least_unique}
use Rattle.hashbag_table.proofs.table.Table.shrink_to_fit.Goals.{In_ok-least}
use Rattle.hashbag_table.proofs.table.Table.shrink_to_fit.Goals as goal

pub returns-in_err-least-clause-enough : goal.returns-in_err-least-clause-enough
returns-in_err-least-clause-enough g c m least le =
    let few = least_bound 0 _ m least in let len = c.set_len.ensures.len in let most = limit_most in let many = c.in_err-least.ensures.past_most refl in
    absurd (omega (arith, few, len, most, many))

-- no values need no slots
no_slots : (g : _) (c : In_ok-least g) → c.args.self.now.entries ≡ [] → c.in_ok-least.least ≡ 0
no_slots g c none = least_empty c.args.self.now.entries _ _ c.set_len.ensures.len c.in_ok-least.ensures.least none

pub returns-then-least-slots-clause-freed : goal.returns-then-least-slots-clause-freed
returns-then-least-slots-clause-freed g c none =
    let count = no_slots g (goal.at.returns-then-least-slots-clause-freed g c).In_ok-least none in
    subst (λ t. t.tables.newer ≡ []) c.self.view_is (drop_all 0 c.self.inside.newer.slots (omega (arith, count, c.if-least-slots.true, c.slots.ensures.value)))

pub returns-clause-freed : goal.returns-clause-freed
returns-clause-freed g c none =
    let count = no_slots g (goal.at.returns-clause-freed g c).In_ok-least none in
    let slots : length c.move_all_into.new.self.tables.newer ≡ c.in_ok-least.least = c.move_all_into.ensures.slots ∙ ap length c.in_ok-newer.ensures.slots ∙ length-replicate c.in_ok-least.least Empty in
    drop_all 0 c.move_all_into.new.self.tables.newer (omega (arith, count, slots))

pub returns-clause-freed_built : goal.returns-clause-freed_built
returns-clause-freed_built g c none =
    let count = no_slots g (goal.at.returns-clause-freed_built g c).In_ok-least none in
    let size : length c.in_ok-newer.newer.slots ≡ c.in_ok-least.least = ap length c.in_ok-newer.ensures.slots ∙ length-replicate c.in_ok-least.least Empty in
    let sum = c.move_all_into.ensures.built in
    omega (arith, count, size, sum)

pub returns-then-least-slots-clause-shrinks : goal.returns-then-least-slots-clause-shrinks
returns-then-least-slots-clause-shrinks g c =
    let few = c.if-least-slots.true in let s = c.slots.ensures.value in let seen = ap (λ t. length t.tables.newer) c.self.view_is in
    inl (
      λ m least.
          let same = least_unique 0 _ c.in_ok-least.least m (subst (λ k. IsLeast 0 k c.in_ok-least.least) c.set_len.ensures.len c.in_ok-least.ensures.least) least in
          omega (arith, same, few, s, seen),
      refl,
    )

pub returns-clause-shrinks : goal.returns-clause-shrinks
returns-clause-shrinks g c =
    let size : length c.move_all_into.new.self.tables.newer ≡ c.in_ok-least.least = c.move_all_into.ensures.slots ∙ ap length c.in_ok-newer.ensures.slots ∙ length-replicate c.in_ok-least.least Empty in
    let less = c.if-least-slots.false in let s = c.slots.ensures.value in
    let seen = ap (λ t. length t.tables.newer) c.self.view_is in
    let is = subst (λ k. IsLeast 0 k c.in_ok-least.least) c.set_len.ensures.len c.in_ok-least.ensures.least in
    inr (
      omega (arith, size, less, s, seen),
      record {
        least = subst (IsLeast 0 (length c.args.self.now.entries)) (sym size) is;
        packed = c.move_all_into.ensures.packed;
        built = c.move_all_into.ensures.built ∙ ap (λ k. c.args.self.now.tables.built + k) (sym c.move_all_into.ensures.slots);
      },
    )

use Rattle.std.proofs.Common.{◌+◌, ◌-◌, ◌≤◌, min, length, drop, sym, ap, subst, ◌∙◌, inl, inr, arith}
use Rattle.std.proofs.Math.Nat.{min-eq_left, min-eq_right}
use Rattle.std.proofs.lemmas.Bool.{cases_lt}
use Rattle.hashbag_slots.specs.Hashing.{hash_under}
use Rattle.hashbag_slots.specs.Slots.{slot_at, moved}
use Rattle.hashbag_table.specs.Tables.{AreTables, Carried, CarriedOn}
use Rattle.hashbag_table.proofs.SlotLemmas.{live-drop}
use Rattle.hashbag_table.proofs.CarryLemmas.{tables_after, carried_after, tables_freed, carried_freed}
use Rattle.hashbag_table.proofs.table.resize.carry_next.Goals.{After-carry_from}
use Rattle.hashbag_table.proofs.table.resize.carry_next.Goals as goal

pub carry_from-requires-clause-room : goal.carry_from-requires-clause-room
carry_from-requires-clause-room g c =
    let t = c.requires.tables in
    let l = live-drop c.args.older.now.slots c.args.carried_to t.carried_within t.carried_not_live in let f = t.fits in omega (arith, l, f)

-- what the carry leaves, before an older table of which all was carried is freed
within : (g : _) (c : After-carry_from g) → c.args.carried_to + c.min-many.result ≤ length c.args.older.now.slots
within g c = omega (arith, c.min-many.ensures, c.slots-slots.ensures.value, c.requires.tables.carried_within)

tables : (g : _) (c : After-carry_from g) → AreTables g.T.PartialEq.eq (hash_under g.T.Hash.hash_input g.S.BuildHasher g.S.Hasher.Hasher c.args.hasher.now) c.carry_from.new.self c.carry_from.new.older (c.args.carried_to + c.min-many.result)
tables g c =
    let h = c.carry_from.ensures in let t = c.requires.tables in
    tables_after g.T.PartialEq.eq _ c.args.newer.now c.args.older.now c.carry_from.new.self c.carry_from.new.older c.args.carried_to c.min-many.result t (within g c) h.placed h.left h.apart h.sum h.removed h.slots h.reached (h.older_reached _ t.older_reached)

carried : (g : _) (c : After-carry_from g) → CarriedOn c.args.most c.args.carried_to (c.args.carried_to + c.min-many.result) c.args.newer.now c.args.older.now c.carry_from.new.self c.carry_from.new.older
carried g c =
    let h = c.carry_from.ensures in
    carried_after g.T.PartialEq.eq _ c.args.newer.now c.args.older.now c.carry_from.new.self c.carry_from.new.older c.args.carried_to c.min-many.result c.requires.tables (within g c) h.placed h.left h.apart h.sum h.removed h.slots h.reached (h.older_reached _ c.requires.tables.older_reached)
    c.args.most (c.min-many.ensures ∙ ap (λ l. min (l - c.args.carried_to) c.args.most) c.slots-slots.ensures.value)

pub returns-clause-tables : goal.returns-clause-tables
returns-clause-tables g c = tables g (goal.at.returns-clause-tables g c).After-carry_from

pub returns-clause-carried : goal.returns-clause-carried
returns-clause-carried g c = carried g (goal.at.returns-clause-carried g c).After-carry_from

pub returns-then-carried_to-many-clause-tables : goal.returns-then-carried_to-many-clause-tables
returns-then-carried_to-many-clause-tables g c =
    subst (λ none. AreTables g.T.PartialEq.eq (hash_under g.T.Hash.hash_input g.S.BuildHasher g.S.Hasher.Hasher c.args.hasher.now) c.carry_from.new.self none 0) (sym c.replace-freed.ensures.after)
    (tables_freed g.T.PartialEq.eq _ c.carry_from.new.self c.carry_from.new.older c.no_slots.result (c.args.carried_to + c.min-many.result) (tables g (goal.at.returns-then-carried_to-many-clause-tables g c).After-carry_from) (omega (arith, c.carry_from.ensures.left.same_length, c.slots-slots.ensures.value, c.if-carried_to-many.true)) c.no_slots.ensures.slots (c.no_slots.ensures.reached _))

pub returns-then-carried_to-many-clause-carried : goal.returns-then-carried_to-many-clause-carried
returns-then-carried_to-many-clause-carried g c =
    subst (λ none. Carried c.args.most c.args.newer.now.slots (drop c.args.carried_to c.args.older.now.slots) c.carry_from.new.self.slots (drop 0 none.slots)) (sym c.replace-freed.ensures.after)
    (carried_freed c.args.most c.args.newer.now.slots (drop c.args.carried_to c.args.older.now.slots) c.carry_from.new.self.slots c.carry_from.new.older c.no_slots.result (c.args.carried_to + c.min-many.result) (carried g (goal.at.returns-then-carried_to-many-clause-carried g c).After-carry_from) (omega (arith, c.carry_from.ensures.left.same_length, c.slots-slots.ensures.value, c.if-carried_to-many.true)) c.no_slots.ensures.slots)

pub returns-then-carried_to-many-clause-freed : goal.returns-then-carried_to-many-clause-freed
returns-then-carried_to-many-clause-freed g c = λ _. ap (λ (o : _). length o.slots) c.replace-freed.ensures.after ∙ ap length c.no_slots.ensures.slots

pub returns-clause-freed : goal.returns-clause-freed
returns-clause-freed g c all =
    absurd (c.if-carried_to-many.false (omega (arith, within g (goal.at.returns-clause-freed g c).After-carry_from, c.carry_from.ensures.left.same_length, c.slots-slots.ensures.value, all)))

pub returns-clause-far : goal.returns-clause-far
returns-clause-far g c some =
    let few = c.min-many.ensures in let value = c.slots-slots.ensures.value in let goes = c.if-carried_to-many.false in let inside = within g (goal.at.returns-clause-far g c).After-carry_from in
    elim (cases_lt (c.slots-slots.result - c.args.carried_to) c.args.most) [
      | inl less ↦ absurd (goes (let is = few ∙ min-eq_left (omega arith) in omega arith))
      | inr more ↦ let is = few ∙ min-eq_right more in omega arith
    ]

pub returns-clause-empty : goal.returns-clause-empty
returns-clause-empty g c p was =
    let left = c.carry_from.ensures.left in
    elim (cases_lt p c.args.carried_to) [
      | inl before ↦ left.outside p (inl before) ∙ was
      | inr after ↦ elim (cases_lt p (c.args.carried_to + c.min-many.result)) [
        | inl inside ↦ left.inside p after inside ∙ ap moved was
        | inr beyond ↦ left.outside p (inr beyond) ∙ was
      ]
    ]

pub returns-then-carried_to-many-clause-empty : goal.returns-then-carried_to-many-clause-empty
returns-then-carried_to-many-clause-empty g c p was = ap (λ (o : _). slot_at o.slots p) c.replace-freed.ensures.after ∙ ap (λ ss. slot_at ss p) c.no_slots.ensures.slots

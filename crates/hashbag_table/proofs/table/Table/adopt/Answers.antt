use Rattle.std.proofs.Common.{◌≡◌, ◌++◌, [], drop, sym, ap, subst, ◌∙◌}
use Rattle.std.proofs.lemmas.List.{append-nil}
use Rattle.std.specs.List.Sorted.{IsPermutation}
use Rattle.hashbag_slots.specs.Hashing.{hash_under}
use Rattle.hashbag_slots.specs.Slots.{entries}
use Rattle.hashbag_table.specs.Tables.{entries_of, Carried, MayAdopt}
use Rattle.hashbag_table.proofs.CarryLemmas.{IsTables-adopted}
use Rattle.hashbag_table.proofs.HintLemmas.{hints_new}
use Rattle.hashbag_table.proofs.table.Table.adopt.Goals.{After-carry_next-self-inside}
use Rattle.hashbag_table.proofs.table.Table.adopt.Goals as goal

-- what waits now are the slots of the former newer table, but for those that were carried
carried : (g : _) (c : After-carry_next-self-inside g) → Carried c.args.many c.args.newer.slots c.self.inside.newer.slots c.carry_next-self-inside.new.newer.slots (drop c.carry_next-self-inside.result c.carry_next-self-inside.new.older.slots)
carried g c =
    let newer = c.carry_next-self-inside.new.newer.slots in let waiting = drop c.carry_next-self-inside.result c.carry_next-self-inside.new.older.slots in
    subst (λ (x : _). Carried c.args.many x.slots c.self.inside.newer.slots newer waiting) c.replace-former.ensures.after
    (subst (λ (y : _). Carried c.args.many c.replace-former.new.dest.slots y.slots newer waiting) (c.replace-freed.ensures.after ∙ c.replace-former.ensures.value) c.carry_next-self-inside.ensures.carried)

pub invariant_of-self : goal.invariant_of-self
invariant_of-self g c =
    let may = subst (λ t. MayAdopt g.T.PartialEq.eq (hash_under g.T.Hash.hash_input g.S.BuildHasher g.S.Hasher.Hasher t.hasher) c.args.newer t.tables.newer c.args.many) (sym c.self.view_is) c.requires.may in
    let h = c.carry_next-self-inside in
    record {
      kept = IsTables-adopted g.T.PartialEq.eq _ c.self.inside.newer c.args.newer c.args.many c.self.invariant.kept.tables.newer_reached may g.met.T.Eq.laws h.new.newer h.new.older h.result h.ensures.tables
          (carried g (goal.at.invariant_of-self g c).After-carry_next-self-inside) h.ensures.freed;
      hints = hints_new h.new.newer.slots h.new.older.slots h.result c.quick_of-self-inside.result
          (λ small. let is = c.quick_of-self-inside.ensures.small small in (sym c.slots-2.ensures.value ∙ is.0, sym c.slots-3.ensures.value ∙ is.1));
    }

pub returns-clause-carried : goal.returns-clause-carried
returns-clause-carried g c =
    let h = c.carry_next-self-inside in
    subst (λ t. Carried c.args.many c.args.newer.slots t.tables.newer h.new.newer.slots (drop h.result h.new.older.slots)) c.self.view_is (carried g (goal.at.returns-clause-carried g c).After-carry_next-self-inside)

pub returns-clause-entries : goal.returns-clause-entries
returns-clause-entries g c =
    let alone = subst (λ t. t.tables.waiting ≡ []) (sym c.self.view_is) c.requires.none_waits in
    let h = c.carry_next-self-inside in let now = entries_of h.new.newer.slots (drop h.result h.new.older.slots) in
    let es = entries c.args.newer.slots in let ns = entries c.self.inside.newer.slots in
    let same = ap (λ ss. es ++ (ns ++ entries ss)) alone ∙ ap (λ l. es ++ l) (append-nil ns) in
    subst (λ t. IsPermutation (es ++ t.entries) now) c.self.view_is
    (subst (λ l. IsPermutation l now) (sym same) (carried g (goal.at.returns-clause-entries g c).After-carry_next-self-inside).entries)

use Rattle.std.proofs.Common.{◌<◌, sym, subst, ◌∙◌, drop}
use Rattle.hashbag_slots.specs.Hashing.{hash_under}
use Rattle.hashbag_table.specs.Tables.{room}
use Rattle.hashbag_table.proofs.CarryLemmas.{IsTables-carried, carries_after}
use Rattle.hashbag_table.proofs.HintLemmas.{hints_carried}
use Rattle.hashbag_table.proofs.table.Table.carry.Goals as goal

pub invariant_of-self : goal.invariant_of-self
invariant_of-self g c =
    let hash = hash_under g.T.Hash.hash_input g.S.BuildHasher g.S.Hasher.Hasher c.self.inside.hasher in
    let i = c.self.inside in let n = c.carry_next-self-inside in
    record {
      kept = IsTables-carried g.T.PartialEq.eq hash g.met.T.Eq.laws c.self.inside.newer c.self.inside.older c.carry_next-self-inside.new.newer c.carry_next-self-inside.new.older c.self.inside.carried_to c.carry_next-self-inside.result c.self.invariant.kept c.carry_next-self-inside.ensures.tables c.carry_next-self-inside.ensures.carried c.carry_next-self-inside.ensures.freed;
      hints = hints_carried i.newer.slots i.older.slots n.new.newer.slots n.new.older.slots i.carried_to i.edge i.quick i.at_once n.result c.after_last_empty-last.result c.edge_after-self-inside.result c.quick_of-self-inside.result c.self.invariant.hints
          n.ensures.empty n.ensures.far c.after_last_empty-last.ensures.past c.after_last_empty-last.ensures.empty c.edge_after-self-inside.ensures.none c.edge_after-self-inside.ensures.last c.edge_after-self-inside.ensures.kept
          (λ small. let is = c.quick_of-self-inside.ensures.small small in (sym c.slots.ensures.value ∙ is.0, sym c.slots-2.ensures.value ∙ is.1))
          (subst (λ t. 0 < t.tables.older) (sym c.self.view_is) c.requires.waits);
    }

pub returns-clause-carries : goal.returns-clause-carries
returns-clause-carries g c =
    let hash = hash_under g.T.Hash.hash_input g.S.BuildHasher g.S.Hasher.Hasher c.self.inside.hasher in
    let w = drop c.self.inside.carried_to c.self.inside.older.slots in
    (carries_after g.T.PartialEq.eq hash c.self.inside.newer.slots w c.carry_next-self-inside.new.newer.slots (drop c.carry_next-self-inside.result c.carry_next-self-inside.new.older.slots) c.carry_next-self-inside.ensures.carried c.self.invariant.kept.carries
    (subst (λ t. 0 < room t.tables) (sym c.self.view_is) c.requires.room)).1

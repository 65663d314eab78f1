use Rattle.std.proofs.Common.{length, sym, ap, subst, ◌∙◌}
use Rattle.hashbag_slots.specs.Hashing.{hash_under}
use Rattle.hashbag_table.specs.Tables.{IsTables}
use Rattle.hashbag_table.proofs.CarryLemmas.{IsTables-blank, entries_blank}
use Rattle.hashbag_table.proofs.HintLemmas.{hints_new}
use Rattle.hashbag_table.proofs.table.Table.clear.Goals as goal

pub invariant_of-self : goal.invariant_of-self
invariant_of-self g c =
    let eq = g.T.PartialEq.eq in
    let hash = hash_under g.T.Hash.hash_input g.S.BuildHasher g.S.Hasher.Hasher c.self.inside.hasher in
    record {
      kept = subst (λ (o : _). IsTables eq hash c.clear_slots.new.slots o 0) (sym c.replace-freed.ensures.after)
          (IsTables-blank eq hash c.clear_slots.new.slots c.no_slots.result (length c.self.inside.newer.slots) c.clear_slots.ensures.slots c.no_slots.ensures.slots (c.clear_slots.ensures.reached hash) (c.no_slots.ensures.reached hash));
      hints = hints_new c.clear_slots.new.slots.slots c.replace-freed.new.dest.slots 0 c.quick_of-self-inside.result
          (λ small. let is = c.quick_of-self-inside.ensures.small small in (sym c.slots.ensures.value ∙ is.0, ap (λ (o : _). length o.slots) c.replace-freed.ensures.after ∙ ap length c.no_slots.ensures.slots));
    }

pub returns-clause-empty : goal.returns-clause-empty
returns-clause-empty g c =
    entries_blank c.clear_slots.new.slots.slots c.replace-freed.new.dest.slots (length c.self.inside.newer.slots) c.clear_slots.ensures.slots (ap (λ (o : _). o.slots) c.replace-freed.ensures.after ∙ c.no_slots.ensures.slots)

use Rattle.std.proofs.Common.{◌≡◌, ◌+◌, ◌++◌, length, sym, ap, subst, ◌∙◌, arith}
use Rattle.std.specs.List.Sorted.{IsPermutation}
use Rattle.std.proofs.lemmas.List.{append-nil}
use Rattle.std.proofs.lemmas.List.Sorted.{IsPermutation-trans, length_permutation}
use Rattle.hashbag_slots.specs.Hashing.{hash_under}
use Rattle.hashbag_slots.specs.Slots.{live_count, entries}
use Rattle.hashbag_table.specs.Entries.{IsCounted}
use Rattle.hashbag_table.specs.Tables.{entries_of}
use Rattle.hashbag_table.proofs.CarryLemmas.{entries_fresh}
use Rattle.hashbag_table.proofs.EntryLemmas.{counted_rearranged}
use Rattle.hashbag_table.proofs.PackLemmas.{may_pack, packed, values_packed}
use Rattle.hashbag_table.proofs.SlotLemmas.{length-entries}
use Rattle.hashbag_table.proofs.table.Table.move_all_into.Goals.{After-slots-many}
use Rattle.hashbag_table.proofs.table.Table.move_all_into.Goals as goal

-- after the carry all values are in the newer table
alone : (g : _) (c : After-slots-many g) → c.finish_carry.new.self.entries ≡ entries c.finish_carry.new.self.tables.newer
alone g c =
    let t = c.finish_carry.new.self.tables in
    c.slots-many.ensures.entries ∙ ap (λ w. entries_of t.newer w) c.finish_carry.ensures.waiting ∙ append-nil (entries t.newer)

-- as many as there were
all : (g : _) (c : After-slots-many g) → live_count c.finish_carry.new.self.tables.newer ≡ length c.args.self.now.entries
all g c =
    let is = ap length (alone g c) in let same = length_permutation _ _ c.finish_carry.ensures.entries.means in let live = length-entries c.finish_carry.new.self.tables.newer in
    omega (arith, is, same, live)

pub adopt-requires-clause-may : goal.adopt-requires-clause-may
adopt-requires-clause-may g c =
    let at = (goal.at.adopt-requires-clause-may g c).After-slots-many in let left = c.finish_carry.new.self in let few = all g at in let enough = c.requires.enough in let many = c.slots-many.ensures.slots in
    may_pack g.T.PartialEq.eq (hash_under g.T.Hash.hash_input g.S.BuildHasher g.S.Hasher.Hasher left.hasher) c.args.newer left.tables.newer c.slots-many.result c.requires.empty (c.requires.reached _)
    (subst (IsCounted g.T.PartialEq.eq) (alone g at) c.finish_carry.ensures.entries.counted) (omega (arith, few, enough)) (omega (arith, many))

pub returns-clause-slots : goal.returns-clause-slots
returns-clause-slots g c = c.adopt.ensures.carried.fills.same_length

pub returns-clause-packed : goal.returns-clause-packed
returns-clause-packed g c = let many = c.slots-many.ensures.slots in packed c.args.newer.slots c.finish_carry.new.self.tables.newer c.slots-many.result c.requires.empty (omega (arith, many)) c.adopt.new.self.tables c.adopt.ensures.carried

pub returns-clause-values : goal.returns-clause-values
returns-clause-values g c =
    let many = c.slots-many.ensures.slots in
    values_packed c.args.newer.slots c.finish_carry.new.self.tables.newer c.slots-many.result c.requires.empty (omega (arith, many)) c.adopt.new.self.tables c.adopt.ensures.carried ∙ all g (goal.at.returns-clause-values g c).After-slots-many

pub returns-clause-entries : goal.returns-clause-entries
returns-clause-entries g c =
    let means : IsPermutation c.args.self.now.entries c.adopt.new.self.entries = IsPermutation-trans _ _ _ c.finish_carry.ensures.entries.means
    (subst (λ es. IsPermutation (es ++ c.finish_carry.new.self.entries) c.adopt.new.self.entries) (entries_fresh c.args.newer.slots c.requires.empty) c.adopt.ensures.entries) in
    record {
      means = means;
      hasher = c.adopt.ensures.hasher ∙ c.finish_carry.ensures.entries.hasher;
      counted = counted_rearranged g.met.T.Eq.laws _ _ c.adopt.ensures.entries (subst (λ es. IsCounted g.T.PartialEq.eq (es ++ c.finish_carry.new.self.entries)) (sym (entries_fresh c.args.newer.slots c.requires.empty)) c.finish_carry.ensures.entries.counted);
    }

pub returns-clause-built : goal.returns-clause-built
returns-clause-built g c = c.adopt.ensures.built ∙ ap (λ b. b + length c.args.newer.slots) c.finish_carry.ensures.room.built

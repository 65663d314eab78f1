use Rattle.std.proofs.Common.{◌≡◌, ◌-◌, ◌≤◌, length, drop, sym, ap, subst, ◌∙◌, refl, arith}
use Rattle.std.proofs.lemmas.List.{drop_all, length-drop}
use Rattle.hashbag_slots.specs.Hashing.{hash_under}
use Rattle.std.specs.List.Sorted.{IsPermutation}
use Rattle.hashbag_table.specs.Tables.{Tables, entries_of, Carried, KeepsRoom}
use Rattle.hashbag_table.proofs.CarryLemmas.{IsTables-finished, room_carried}
use Rattle.hashbag_table.proofs.EntryLemmas.{counted_rearranged}
use Rattle.hashbag_table.proofs.HintLemmas.{hints_new}
use Rattle.hashbag_table.proofs.table.Table.finish_carry.Goals as goal

pub overflow_sub-waiting : goal.overflow_sub-waiting
overflow_sub-waiting g c = let w = c.self.invariant.kept.tables.carried_within in let s = c.slots.ensures.value in omega (arith, w, s)

pub invariant_of-self : goal.invariant_of-self
invariant_of-self g c =
    let hash = hash_under g.T.Hash.hash_input g.S.BuildHasher g.S.Hasher.Hasher c.self.inside.hasher in
    let i = c.self.inside in
    let all : length (drop i.carried_to i.older.slots) ≤ c.slots.result - i.carried_to = let l = length-drop i.carried_to i.older.slots in let s = c.slots.ensures.value in omega (arith, l, s) in
    record {
      kept = IsTables-finished g.T.PartialEq.eq hash g.met.T.Eq.laws i.newer i.older c.carry_next-self-inside.new.newer c.carry_next-self-inside.new.older i.carried_to c.carry_next-self-inside.result (c.slots.result - i.carried_to) c.self.invariant.kept c.carry_next-self-inside.ensures.tables c.carry_next-self-inside.ensures.carried all c.carry_next-self-inside.ensures.freed;
      hints = hints_new c.carry_next-self-inside.new.newer.slots c.carry_next-self-inside.new.older.slots c.carry_next-self-inside.result c.quick_of-self-inside.result
          (λ small. let is = c.quick_of-self-inside.ensures.small small in (sym c.slots-2.ensures.value ∙ is.0, sym c.slots-3.ensures.value ∙ is.1));
    }

pub returns : goal.returns
returns g c =
    let i = c.self.inside in let h = c.carry_next-self-inside.ensures.carried in
    let w = drop i.carried_to i.older.slots in let ns = c.carry_next-self-inside.new.newer.slots in let os = c.carry_next-self-inside.new.older.slots in let left = drop c.carry_next-self-inside.result os in
    let many : c.slots.result - i.carried_to ≡ length w = let l = length-drop i.carried_to i.older.slots in let s = c.slots.ensures.value in omega (arith, l, s) in
    let after : Tables g.row.T.Denot = record { newer = ns; waiting = left; older = length os; built = i.built } in
    record {
      entries = record {
        means = subst (λ t. IsPermutation t.entries (entries_of ns left)) c.self.view_is h.entries;
        hasher = ap (λ t. t.hasher) c.self.view_is;
        counted = counted_rearranged g.met.T.Eq.laws _ _ h.entries c.self.invariant.kept.counted;
      };
      waiting = h.waits ∙ drop_all (c.slots.result - i.carried_to) w (omega (arith, many));
      carried = subst (λ t. Carried (length t.tables.waiting) t.tables.newer t.tables.waiting ns left) c.self.view_is (subst (λ k. Carried k i.newer.slots w ns left) many h);
      room = subst (λ t. KeepsRoom 0 t.tables after) c.self.view_is (record {
        slots = h.fills.same_length;
        room = let r = room_carried g.T.PartialEq.eq (hash_under g.T.Hash.hash_input g.S.BuildHasher g.S.Hasher.Hasher i.hasher) (c.slots.result - i.carried_to) i.newer.slots w ns left h in omega (arith, r);
        built = refl;
      });
    }

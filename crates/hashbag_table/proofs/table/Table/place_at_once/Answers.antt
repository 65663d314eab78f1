use Rattle.std.proofs.Common.{◌≡◌, ◌<◌, ◌≤◌, ◌-◌, ◌*◌, ◌∷◌, None, length, drop, sym, ap, subst, arith}
use Rattle.std.specs.List.Sorted.{IsPermutation}
use Rattle.hashbag_table.specs.Entries.{entry_of}
use Rattle.hashbag_table.specs.Tables.{room, entries_of}
use Rattle.hashbag_table.proofs.SlotLemmas.{absent_both}
use Rattle.hashbag_table.proofs.CarryLemmas.{IsTables-settled, entries_settled}
use Rattle.hashbag_table.proofs.HintLemmas.{hints_placed}
use Rattle.hashbag_table.proofs.table.Table.place_at_once.Goals as goal

pub place_at-requires-clause-absent : goal.place_at-requires-clause-absent
place_at-requires-clause-absent g c =
    let eq = g.T.PartialEq.eq in let v = c.args.value in let i = c.self.inside in
    (absent_both eq v i.newer.slots (drop i.carried_to i.older.slots) (subst (λ t. entry_of eq v t.entries ≡ None) (sym c.self.view_is) c.requires.absent)).0

pub invariant_of-self : goal.invariant_of-self
invariant_of-self g c =
    let absent = subst (λ t. entry_of g.T.PartialEq.eq c.args.value t.entries ≡ None) (sym c.self.view_is) c.requires.absent in
    let has_room = subst (λ t. 0 < room t.tables) (sym c.self.view_is) c.requires.room in
    let carries = subst (λ t. length t.tables.waiting ≤ 16 * (room t.tables - 1)) (sym c.self.view_is) c.requires.carries in
    record {
      kept = IsTables-settled g.T.PartialEq.eq g.met.T.Eq.laws _ c.self.inside.newer c.self.inside.older c.place_at.new.self c.self.inside.carried_to c.args.value c.args.count c.self.invariant.kept absent c.requires.positive has_room carries c.place_at.ensures.placed c.place_at.ensures.reached;
      hints = hints_placed c.self.invariant.hints c.place_at.new.self.slots c.args.value c.args.count _ c.place_at.ensures.placed (λ some. omega arith);
    }

pub returns-clause-entries : goal.returns-clause-entries
returns-clause-entries g c =
    let i = c.self.inside in let w = drop i.carried_to i.older.slots in
    record {
      means = subst (λ t. IsPermutation ((c.args.value, c.args.count) ∷ t.entries) (entries_of c.place_at.new.self.slots w)) c.self.view_is
          (entries_settled c.args.value c.args.count i.newer.slots c.place_at.new.self.slots w c.place_at.ensures.placed);
      hasher = ap (λ t. t.hasher) c.self.view_is;
      counted = (invariant_of-self g c).kept.counted;
    }

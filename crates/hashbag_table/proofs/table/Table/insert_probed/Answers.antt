use Rattle.std.proofs.Common.{◌∙◌}
use Rattle.std.proofs.lemmas.List.Sorted.{IsPermutation-trans, IsPermutation-cons}
use Rattle.hashbag_table.proofs.AddLemmas.{stores_arrived}
use Rattle.hashbag_table.proofs.SlotLemmas.{absent_rearranged}
use Rattle.hashbag_table.proofs.CarryLemmas.{arrives_from}
use Rattle.hashbag_table.proofs.table.Table.insert_probed.Goals as goal

pub place_absent-requires-clause-absent : goal.place_absent-requires-clause-absent
place_absent-requires-clause-absent g c =
    absent_rearranged (g.T.PartialEq.eq c.args.value) _ _ c.carry_past-free.ensures.entries c.requires.absent

pub returns-then-room-gt0-clause-stored : goal.returns-then-room-gt0-clause-stored
returns-then-room-gt0-clause-stored g c =
    let v = c.args.value in
    stores_arrived g.T.PartialEq.eq g.met.T.Eq.laws v c.args.n c.args.self.now c.place_absent.new.self c.requires.absent
    (record {
      means = IsPermutation-trans _ _ _ (IsPermutation-cons (v, c.args.n) _ _ c.carry_past-free.ensures.entries) c.place_absent.ensures.entries.means;
      hasher = c.place_absent.ensures.entries.hasher ∙ c.carry_past-free.ensures.hasher;
      counted = c.place_absent.ensures.entries.counted;
    })
    (arrives_from c.args.self.now.tables c.carry_past-free.new.self.tables c.place_absent.new.self.tables v c.args.n c.carry_past-free.ensures.ready c.place_absent.ensures.placed c.place_absent.ensures.waiting c.place_absent.ensures.built)

use Rattle.std.proofs.Common.{sym, ◌∙◌, subst}
use Rattle.std.proofs.lemmas.List.Sorted.{IsPermutation-trans, IsPermutation-cons}
use Rattle.hashbag_table.specs.Entries.{IsCounted}
use Rattle.hashbag_table.proofs.AddLemmas.{stores_arrived}
use Rattle.hashbag_table.proofs.SlotLemmas.{absent_rearranged}
use Rattle.hashbag_table.proofs.CarryLemmas.{arrives_from}
use Rattle.hashbag_table.proofs.table.Table.insert_hashed.Goals as goal

pub returns-in_err-carry_or_grow-clause-counted : goal.returns-in_err-carry_or_grow-clause-counted
returns-in_err-carry_or_grow-clause-counted g c =
    subst (λ t. IsCounted g.T.PartialEq.eq t.entries) (sym c.in_err-carry_or_grow.ensures.err) c.show_invariant.ensures.counted

pub place_absent-requires-clause-absent : goal.place_absent-requires-clause-absent
place_absent-requires-clause-absent g c =
    absent_rearranged (g.T.PartialEq.eq c.args.value) _ _ c.in_ok-carry_or_grow.ensures.entries c.requires.absent

pub returns-clause-stored : goal.returns-clause-stored
returns-clause-stored g c =
    let v = c.args.value in
    stores_arrived g.T.PartialEq.eq g.met.T.Eq.laws v c.args.count c.args.self.now c.place_absent.new.self c.requires.absent
    (record {
      means = IsPermutation-trans _ _ _ (IsPermutation-cons (v, c.args.count) _ _ c.in_ok-carry_or_grow.ensures.entries) c.place_absent.ensures.entries.means;
      hasher = c.place_absent.ensures.entries.hasher ∙ c.carry_or_grow.ensures.hasher;
      counted = c.place_absent.ensures.entries.counted;
    })
    (arrives_from c.args.self.now.tables c.carry_or_grow.new.self.tables c.place_absent.new.self.tables v c.args.count c.in_ok-carry_or_grow.ensures.ready c.place_absent.ensures.placed c.place_absent.ensures.waiting c.place_absent.ensures.built)

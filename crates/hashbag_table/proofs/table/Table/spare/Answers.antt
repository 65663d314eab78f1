use Rattle.std.proofs.Common.{◌≤◌, length, drop, ap, arith}
use Rattle.hashbag_table.specs.declared.table.TheConstants.{MOST_VALUES}
use Rattle.hashbag_table.proofs.LeastLemmas.{most_is, values_fit}
use Rattle.hashbag_table.proofs.table.Table.spare.Goals.{After-slots-slots}
use Rattle.hashbag_table.proofs.table.Table.spare.Goals as goal

-- the values fit into the greatest table
fit : (g : _) (c : After-slots-slots g) → length c.args.self.now.entries ≤ MOST_VALUES
fit g c =
    let i = c.self.inside in
    (values_fit i.newer.slots (drop i.carried_to i.older.slots) c.args.self.now.entries _ (ap (λ t. t.entries) c.self.view_is) c.self.invariant.kept.tables.fits c.slots-slots.ensures.value c.slots-slots.ensures.bound).1

pub overflow_sub-values : goal.overflow_sub-values
overflow_sub-values g c = omega (arith, fit g (goal.at.overflow_sub-values g c).After-slots-slots, c.set_len-values.ensures.len, most_is)

pub returns-clause-past_most : goal.returns-clause-past_most
returns-clause-past_most g c beyond =
    let most = fit g (goal.at.returns-clause-past_most g c).After-slots-slots in
    absurd (omega (arith, most, c.set_len-values.ensures.len, most_is, c.if-n-values.false, beyond))

use Rattle.std.proofs.Common.{nat_cmp}
use Rattle.std.specs.Borrow.{Bor}
use Rattle.std.specs.Cmp.{then_total, on_total, nat_cmp_total}
use Rattle.std.specs.Ordering.{ordering_then}
use Rattle.std.proofs.lemmas.List.Sorted.{ranks_by}
use Rattle.hashbag_match_lib.specs.declared.matching.Row.{Row}
use Rattle.hashbag_match_lib.proofs.ArticleLemmas.{all_rows}
use Rattle.hashbag_match_lib.proofs.RowLemmas.{missing_fits, surplus_fits, table_of_bags, table_of_lists}
use Rattle.hashbag_match_lib.proofs.matching.rows_of_tallies.Goals as goal

pub returns-clause-table : goal.returns-clause-table
returns-clause-table g c = λ L M of_L of_M.
    let laws = g.met.T.Eq.laws in
    let X = c.args.ordered.now.counts.items in
    let Y = c.args.delivered.now.counts.items in
    let Z = c.args.ordered.now.zeros.items in
    let W = c.args.delivered.now.zeros.items in
    let j = c.in_ok-rows.ensures in
    let k = c.in_ok-push_zeros.ensures in
    let made = c.push_zeros.new.rows.items in
    let rows = c.sort_unstable.new.self.items in
    let total = g.met.T.Ord.total in
    table_of_lists L M c.args.ordered.now.counts c.args.ordered.now.zeros c.args.delivered.now.counts c.args.delivered.now.zeros _ of_L of_M
    (table_of_bags laws X Y Z W j.0 k.0 j.1 k.1 made rows (all_rows laws X Y Z W j.0 k.0 j.1 k.1 _ _ j.2 k.2) c.sort_unstable.ensures.permutation
    total g.met.T.Ord.matches_eq (λ x y. ordering_then (nat_cmp x.ordered y.ordered) (nat_cmp x.delivered y.delivered))
    (ranks_by (then_total (on_total (λ (row : Row (Bor g.row.T.Denot)). row.article.now) total) (then_total (on_total (λ (row : Row (Bor g.row.T.Denot)). row.ordered) nat_cmp_total) (on_total (λ (row : Row (Bor g.row.T.Denot)). row.delivered) nat_cmp_total))) (λ (row : Row (Bor g.row.T.Denot)). row))
    c.sort_unstable.ensures.sorted)

pub returns-clause-missing : goal.returns-clause-missing
returns-clause-missing g c =
    let laws = g.met.T.Eq.laws in
    let j = c.in_ok-rows.ensures in
    let k = c.in_ok-push_zeros.ensures in
    missing_fits laws c.args.ordered.now.counts.items c.args.delivered.now.counts.items c.args.ordered.now.zeros.items c.args.delivered.now.zeros.items j.0 k.0 j.1 k.1
    c.push_zeros.new.rows.items c.sort_unstable.new.self.items (all_rows laws _ _ _ _ j.0 k.0 j.1 k.1 _ _ j.2 k.2) c.sort_unstable.ensures.permutation

pub returns-clause-surplus : goal.returns-clause-surplus
returns-clause-surplus g c =
    let laws = g.met.T.Eq.laws in
    let j = c.in_ok-rows.ensures in
    let k = c.in_ok-push_zeros.ensures in
    surplus_fits laws c.args.ordered.now.counts.items c.args.delivered.now.counts.items c.args.ordered.now.zeros.items c.args.delivered.now.zeros.items j.0 k.0 j.1 k.1
    c.push_zeros.new.rows.items c.sort_unstable.new.self.items (all_rows laws _ _ _ _ j.0 k.0 j.1 k.1 _ _ j.2 k.2) c.sort_unstable.ensures.permutation

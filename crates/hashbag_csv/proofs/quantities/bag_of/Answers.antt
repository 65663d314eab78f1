use Rattle.std.proofs.Common.{sym, ◌∙◌, rules}
use Rattle.std.proofs.lemmas.Iterator.Adapters.{YieldsList-from_vec}
use Rattle.hashbag_core.proofs.ExtendLemmas.{handed_on}
use Rattle.hashbag_core.proofs.InsertLemmas.{all_made, some_made}
use Rattle.hashbag_core.proofs.OccurrenceLemmas.{count_rearranged}
use Rattle.hashbag_csv.proofs.QuantityLemmas.{counts_made, length_made, numbers_fit, only_memory}
use Rattle.hashbag_csv.proofs.quantities.bag_of.Goals as goal

-- the pairs that came are those of the list, and carrying moves no occurrence
pub returns : goal.returns
returns g c =
    let laws = g.met.T.Eq.laws in
    let made = c.extend_many.new.self in
    let pairs = YieldsList-from_vec {s = c.into_iter.result} c.args.list.items (search rules) (search rules) in
    let all = all_made laws {after = made} c.with_hasher-bag.ensures.empty c.with_hasher-bag.ensures.slots c.with_hasher-bag.ensures.limit c.in_ok-extend_many.ensures.all in
    record {
      counts = λ v. sym (count_rearranged laws v made.items c.finish_carry.new.self.items c.finish_carry.ensures.items.means) ∙ counts_made laws pairs made.hasher made all v;
      len = c.finish_carry.ensures.len ∙ length_made laws pairs made.hasher made all;
      fits = numbers_fit laws pairs made.hasher made all;
      none_waits = search rules;
      only_memory = search rules;
    }

pub returns-in_err-extend_many-clause-only_memory : goal.returns-in_err-extend_many-clause-only_memory
returns-in_err-extend_many-clause-only_memory g c = λ fits.
    let laws = g.met.T.Eq.laws in
    only_memory laws (YieldsList-from_vec {s = c.into_iter.result} c.args.list.items (search rules) (search rules)) fits c.from_residual.result
    (handed_on c.from_residual.result c.in_err-extend_many.field-0.0 _ _ (λ x is. cc) c.from_residual.ensures.1
    (c.extend_many.new.self, some_made laws {after = c.extend_many.new.self} c.with_hasher-bag.ensures.empty c.with_hasher-bag.ensures.slots c.with_hasher-bag.ensures.limit c.in_err-extend_many.ensures.fails))

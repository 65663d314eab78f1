use Rattle.hashbag_ledger_db.specs.Readings.{kept_names}
use Rattle.hashbag_ledger_db.proofs.FormLemmas.{filed_by_contents}
use Rattle.hashbag_ledger_db.proofs.entering.ready_in.Goals as goal

pub returns : goal.returns
returns g c known = record {
  is = c.in_ok-before.ensures.contents;
  empty = c.in_ok-before.ensures.empty;
  new = c.in_ok-before.ensures.new;
  rising = c.in_ok-before.ensures.rising;
  once = c.in_ok-before.ensures.once;
  begun = c.in_ok-before.ensures.begun;
  all = filed_by_contents c.args.job.now c.args.contents c.args.inputs.now (kept_names c.in_ok-before.before.columns) c.in_ok-before.before.balance.items c.in_ok-filed.filed c.in_ok-before.ensures.empty
      c.in_ok-before.ensures.new (λ e. c.in_ok-filed.ensures.empty e known) c.in_ok-filed.ensures.stock;
}

use Rattle.hashbag_ledger_db.proofs.CountedLemmas.{counted_in}
use Rattle.hashbag_ledger_db.proofs.counting.count_in.Goals as goal

-- the balance that was read is counted
pub returns-clause-counted : goal.returns-clause-counted
returns-clause-counted g c =
    counted_in c.args.job.now c.args.style c.deref-2.result.now c.in_ok-kept.kept.items _ c.args.bytes.items c.in_ok-input.input c.in_ok-filed.filed
    c.in_ok-input.ensures.named c.in_ok-input.ensures.text c.deref-2.ensures.value c.in_ok-filed.ensures

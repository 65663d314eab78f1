use Rattle.hashbag_ledger_db.proofs.counting.counted_of.Goals as goal

pub returns-in-Ok : goal.returns-in-Ok
returns-in-Ok g c = λ first. record {
  reading = c.reading-reading.result;
  is = c.reading-reading.ensures;
  records = c.in_ok-records.records.items;
  read = c.in_ok-records.ensures first;
  counted = c.in-Ok.ensures;
}

use Rattle.std.proofs.Common.{ap, map}
use Rattle.hashbag_csv.proofs.WrittenLemmas.{record_more}
use Rattle.hashbag_csv.proofs.csv_text.push_record.Goals as goal

pub returns : goal.returns
returns c = λ d R before.
    let wrote = c.write_fields.ensures in
    let done = c.in-Ok.is in
    record_more d R _ _ _ before (rw (ap (λ l. map (λ f. f.now) l) c.as_slice.ensures.value) at (rw done at wrote.bytes)) (rw done at wrote.ended) (rw done at wrote.clean) (rw done at wrote.setup)

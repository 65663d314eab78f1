use Rattle.std.proofs.Common.{◌≡◌, false, inl, inr}
use Rattle.std.proofs.lemmas.Bool.{cases_Bool}
use Rattle.csv.specs.Reading.{has_failed}
use Rattle.csv.specs.Records.{fields_of}
use Rattle.hashbag_csv.proofs.ReaderLemmas.{failed_next, is_ready, read_next}
use Rattle.hashbag_csv.proofs.sheet.Sheet.take_record.Goals as goal

-- a reader that failed finds no record; another one reads the next
pub returns-in-Ok-clause-next : goal.returns-in-Ok-clause-next
returns-in-Ok-clause-next c =
    let d = c.args.self.now.delimiter in
    let before = c.args.self.now.reader in
    let after = c.read_byte_record.new.self in
    let fields = fields_of c.read_byte_record.new.row in
    elim (cases_Bool (has_failed before)) [
      | inl failed ↦ let none : c.in-Ok.found ≡ false = let known = c.read_byte_record.ensures.failed failed in cc (known, c.in-Ok.is) in rw none (failed_next d before after fields failed)
      | inr fine ↦ let reads = c.args.self.now.reads fine in read_next d before after c.in-Ok.found fields reads fine (c.in-Ok.ensures.reads reads.1 (is_ready d before reads))
    ]

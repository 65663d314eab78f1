use Rattle.std.proofs.Common.{refl}
use Rattle.csv.specs.Records.{fields_of}
use Rattle.hashbag_csv.proofs.ReaderLemmas.{bytes_or}
use Rattle.hashbag_csv.proofs.sheet.Sheet.bytes_at.Goals as goal

pub returns : goal.returns
returns c = bytes_or (fields_of c.args.self.now.record) c.args.place c.get.result _ c.unwrap_or.result refl c.get.ensures.value c.unwrap_or.ensures

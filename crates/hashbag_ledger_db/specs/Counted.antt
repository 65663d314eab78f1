-- What a count does to the balance that is kept.
use Rattle.std.specs.Prelude.{◌≡◌, ℕ, ◌++◌, if◌then◌else◌, List, [], map, Some, String}
use Rattle.std.specs.Global.{Global}
use Rattle.hashbag_csv.specs.declared.counts.Reading.{Reading}
use Rattle.hashbag_ledger_db.specs.Readings.{IsReadingOf}
use Rattle.hashbag_ledger_db.specs.declared.job.Job.{Job}
use Rattle.hashbag_ledger_db.specs.Filed.{plain_content, start_names}
use Rattle.hashbag_ledger_db.specs.declared.counting.Counted.{Counted}
use Rattle.hashbag_ledger_db.specs.declared.movements.Input.{Input}
use Rattle.hashbag_ledger_lib.specs.Counts.{none_counted, IsCounted}
use Rattle.hashbag_ledger_lib.specs.Movements.{contents_of, movements_in}
use Rattle.hashbag_ledger_lib.specs.declared.filing.Filed.{Filed}
use Rattle.hashbag_ledger_lib.specs.declared.movements.Change.{Change}
use Rattle.hashbag_ledger_lib.specs.declared.movements.Movement.{Movement}
use Rattle.hashbag_ledger_lib.specs.declared.style.Style.{Style}
use Rattle.hashbag_text.specs.Encodings.{text_in}

-- what was counted: the records of the text and, with `--all`, a record with 0 for each article of the balance
abbrev pub counted_by : Job → Reading → List (String Global × ℕ) → List ℕ → List (List ℕ × Change)
counted_by job reading kept text = map plain_content (movements_in reading (start_names job) text) ++ (if job.counts_all then map none_counted kept else [])

-- `records` are the records of a count whose text is the text of the input
abbrev pub AreRecordsOf : Job → Reading → List (String Global × ℕ) → Input → List (Movement (String Global)) → Type 0
AreRecordsOf job reading kept input records = contents_of records ≡ counted_by job reading kept input.text.items

-- `filed` is what a count of `text` does to `kept`. The text is read by the options of the job, and without an option by `style`, which the stock
-- keeps
pub record IsCountedAs (job : Job) (style : Style) (kept : List (String Global × ℕ)) (text : List ℕ) (filed : Filed) : Type 0 where
  pub reading : Reading
  pub is : IsReadingOf job style reading
  pub records : List (Movement (String Global))
  pub read : contents_of records ≡ counted_by job reading kept text
  pub counted : IsCounted kept records filed

-- `filed` is what a count does to `kept`; these bytes are the text of what was counted, in the encoding of the job
pub record IsCountedIn (job : Job) (style : Style) (kept : List (String Global × ℕ)) (bytes : List ℕ) (filed : Filed) : Type 0 where
  pub text : List ℕ
  pub decoded : text_in job.encoding bytes ≡ Some text
  pub all : IsCountedAs job style kept text filed

-- `counted` is what a count does to a stock of this style; these bytes are the text of what was counted, in the encoding of the job
abbrev pub IsCountOf : Job → Style → List ℕ → Counted → Type 0
IsCountOf job style bytes counted = IsCountedIn job style counted.kept.items bytes counted.filed

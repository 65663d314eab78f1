-- What the inputs of a call do to the balance that is kept.
use Rattle.std.specs.Prelude.{◌≡◌, ℕ, ◌^◌, ◌-◌, nat_lt, if◌then◌else◌, Bool, false, List, [], length, map, vec_len, String, string_cmp, Option, None, IfSome, IsSomeAnd, Result, IfOk}
use Rattle.std.specs.Borrow.{Bor}
use Rattle.std.specs.Global.{Global, Vec}
use Rattle.std.specs.String.{string_eq}
use Rattle.hashbag_csv.specs.declared.counts.Reading.{Reading}
use Rattle.hashbag_ledger_db.specs.Readings.{IsReadingOf, asked_style, kept_names, names_by, plain_names}
use Rattle.hashbag_ledger_db.specs.declared.job.Job.{Job}
use Rattle.hashbag_ledger_db.specs.Once.{AreNew}
use Rattle.hashbag_ledger_db.specs.declared.before.Before.{Before}
use Rattle.hashbag_ledger_db.specs.declared.entering.Ready.{Ready}
use Rattle.hashbag_ledger_db.specs.declared.entering.EnterReport.{EnterReport}
use Rattle.hashbag_ledger_db.specs.declared.movements.Input.{Input}
use Rattle.hashbag_ledger_lib.specs.Batches.{all_of}
use Rattle.hashbag_ledger_lib.specs.Changes.{AreChanges, Rises}
use Rattle.hashbag_ledger_lib.specs.Entries.{IsBooked, refusals_in}
use Rattle.hashbag_ledger_lib.specs.Movements.{content_of, contents_of, movements_in, names_now}
use Rattle.hashbag_ledger_lib.specs.Numbers.{plain}
use Rattle.hashbag_ledger_lib.specs.declared.filing.Filed.{Filed}
use Rattle.hashbag_ledger_lib.specs.declared.movements.Change.{Change}
use Rattle.hashbag_ledger_lib.specs.declared.movements.Movement.{Movement}
use Rattle.hashbag_ledger_lib.specs.declared.reading.ChangeColumns.TheVariants.{Signed}
use Rattle.hashbag_ledger_lib.specs.declared.reading.Columns.{Columns}
use Rattle.hashbag_ledger_lib.specs.declared.style.Style.{Style}
use Rattle.hashbag_ledger_db.specs.declared.stock.tables.Contents.{Contents}
use Rattle.hashbag_ledger_db.specs.declared.stock.tables.Contents.TheVariants.{Empty, Stock}

-- a movement as a row has it: `Out 0` is `In 0`
abbrev pub plain_movement : Movement (String Global) → Movement (String Global)
plain_movement m = record { place = m.place; article = m.article; change = plain m.change }

-- an article and its change as a row has them: `Out 0` is `In 0`
abbrev pub plain_content : List ℕ × Change → List ℕ × Change
plain_content m = (m.0, plain m.1)

-- the names of the columns of the opening stock; a file of counted stock has the same
abbrev pub start_names : Job → Columns (List ℕ)
start_names job = record { article = job.start_columns.0.now; change = Signed job.start_columns.1.now }

-- the names of the columns of an input: `names` for movements; the opening stock has its own
abbrev pub names_of : Job → Columns (List ℕ) → Input → Columns (List ℕ)
names_of job names input = if input.is_start then start_names job else names

-- the movements of an input, as rows have them
abbrev pub input_rows : Job → Reading → Columns (List ℕ) → Input → List (List ℕ × Change)
input_rows job reading names input = map plain_content (movements_in reading (names_of job names input) input.text.items)

-- these are the movements of an input, as rows have them; the columns of movements have these names
abbrev pub AreInputRows : Job → Reading → Columns (Bor (List ℕ)) → Input → List (Movement (String Global)) → Type 0
AreInputRows job reading names input movements = contents_of movements ≡ input_rows job reading (names_now names) input

-- these are the movements of the inputs, in turn
abbrev pub AreMovementsOf : Job → Reading → Columns (List ℕ) → List Input → List (Vec (Movement (String Global))) → Type 0
AreMovementsOf job reading names inputs files = map (λ f. map content_of f.items) files ≡ map (input_rows job reading names) inputs

-- the same, with names that a call borrows
abbrev pub AreMovementsRead : Job → Reading → Columns (Bor (List ℕ)) → List Input → List (Vec (Movement (String Global))) → Type 0
AreMovementsRead job reading names inputs files = AreMovementsOf job reading (names_now names) inputs files

-- all movements of all inputs were booked, in turn, on the balance that is kept: `changed` has the changes of the rows of the balance, and
-- `counts` how many movements each input has
pub record IsFiledOf (job : Job) (reading : Reading) (names : Columns (List ℕ)) (inputs : List Input) (kept : List (String Global × ℕ)) (filed : Filed) : Type 0 where
  pub files : List (Vec (Movement (String Global)))
  pub read : AreMovementsOf job reading names inputs files
  pub booked : IsBooked string_eq string_cmp (2 ^ 63 - 1) kept (all_of files) filed.booked.balance.items filed.booked.entries.items
  pub changed : Rises kept → AreChanges kept filed.booked.balance.items filed.changed.items
  pub counts : filed.counts.items ≡ map (λ f. vec_len f) files

-- `filed` is what the inputs do to `kept`. They are read by the options of the job, and without an option by `style` and by `names`, the columns of
-- movements
pub record IsFiledAs (job : Job) (style : Style) (names : Columns (List ℕ)) (inputs : List Input) (kept : List (String Global × ℕ)) (filed : Filed) : Type 0 where
  pub reading : Reading
  pub is : IsReadingOf job style reading
  pub all : IsFiledOf job reading (names_by job names) inputs kept filed

-- `filed` is what the inputs do to the balance that was read from the database. They are read by the options of the job, and without an option by
-- `style` and by the columns that the database keeps
abbrev pub IsFiledOn : Job → Style → Before → List Input → Filed → Type 0
IsFiledOn job style before inputs filed = IsFiledAs job style (kept_names before.columns) inputs before.balance.items filed

-- `filed` is what the inputs do to an empty stock. They are read by the options of the job, and without an option by the defaults
abbrev pub IsFiledAnew : Job → List Input → Filed → Type 0
IsFiledAnew job inputs filed = IsFiledAs job (asked_style job) plain_names inputs [] filed

-- how the files of a stock are written; numbers of a new stock have as many decimals as the job asks for
abbrev pub style_in : Contents → Job → Style
style_in Empty job = asked_style job
style_in (Stock style) job = style

-- if the database has a stock, P holds of its style
abbrev pub IfStock : Contents → (Style → Type 0) → Type 0
IfStock contents P = (style : Style) → contents ≡ Stock style → P style

-- `ready` is what the inputs do to a database with these contents, in which no file is entered twice, and no stock begins twice. They are read by
-- the options of the job, and without an option by what the database keeps. A database without a stock keeps the default columns, delimiter and mark, and the decimals that the job asks for
pub record IsFiledIn (job : Job) (contents : Contents) (inputs : List Input) (ready : Ready) : Type 0 where
  pub is : ready.before.contents ≡ contents
  pub empty : contents ≡ Empty → ready.before.balance.items ≡ []
  pub new : contents ≡ Empty → kept_names ready.before.columns ≡ plain_names
  pub rising : Rises ready.before.balance.items
  pub once : job.enters_again ≡ false → AreNew inputs ready.before.batches.items
  pub begun : IfStock contents (λ _. job.from ≡ None)
  pub all : IsFiledOn job (style_in contents job) ready.before inputs ready.filed

-- whether a movement was refused
abbrev pub has_refusal : Filed → Bool
has_refusal filed = nat_lt 0 (length (refusals_in filed.booked.entries.items))

-- the status of a run: 1 after a refusal, else 0
abbrev pub status_after : Filed → ℕ
status_after filed = if has_refusal filed then 1 else 0

-- `anew` is `None`, or what the inputs do to an empty stock
abbrev pub IsAnewIfThere : Job → List Input → Option Filed → Type 0
IsAnewIfThere job inputs anew = IfSome anew (IsFiledAnew job inputs)

-- if `IsAnewIfThere` holds of `anew`, a result that is `Ok` is what the inputs do to an empty stock
abbrev pub ReturnsAnew : {E : Type 0} → Job → List Input → Option Filed → Result Filed E → Type 0
ReturnsAnew job inputs anew result = IsAnewIfThere job inputs anew → IfOk result (IsFiledAnew job inputs)

-- a `Ready` is there, and is what the inputs do to the balance that was read from the database
abbrev pub IsSomeFiled : Job → Contents → List Input → Option Ready → Type 0
IsSomeFiled job contents inputs ready = IsSomeAnd ready (IsFiledIn job contents inputs)

-- a report has what the inputs do to the balance that was read from the database
abbrev pub IsReportOf : Job → Contents → List Input → EnterReport → Type 0
IsReportOf job contents inputs report = IsSomeFiled job contents inputs report.ready

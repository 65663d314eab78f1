-- How the files of a job are read: by the options of the job, and without an option by what the stock keeps.
use Rattle.std.specs.Prelude.{◌≡◌, ℕ, Bool, ◌-◌, ◌^◌, nat_le, if◌then◌else◌, List, Option, None, Some, String, string_bytes, codes, option_map, unwrap_or}
use Rattle.std.specs.Borrow.{Bor}
use Rattle.std.specs.Global.{Global}
use Rattle.hashbag_csv.specs.Decimals.{most_decimals}
use Rattle.hashbag_csv.specs.declared.counts.Reading.{Reading}
use Rattle.hashbag_csv.specs.declared.scale.Mark.{Mark}
use Rattle.hashbag_csv.specs.declared.scale.Mark.TheVariants.{Point}
use Rattle.hashbag_ledger_db.specs.declared.columns.KeptColumns.{KeptColumns}
use Rattle.hashbag_ledger_db.specs.declared.columns.KeptExtras.{KeptExtras}
use Rattle.hashbag_ledger_db.specs.declared.job.Job.{Job}
use Rattle.hashbag_ledger_lib.specs.Extras.{columns_of}
use Rattle.hashbag_ledger_lib.specs.Movements.{names_now}
use Rattle.hashbag_ledger_lib.specs.Styles.{plain_style}
use Rattle.hashbag_ledger_lib.specs.declared.extras.ExtraColumns.{ExtraColumns}
use Rattle.hashbag_ledger_lib.specs.declared.reading.ChangeColumns.{ChangeColumns}
use Rattle.hashbag_ledger_lib.specs.declared.reading.ChangeColumns.TheVariants.{Signed, ByKind}
use Rattle.hashbag_ledger_lib.specs.declared.reading.Columns.{Columns}
use Rattle.hashbag_ledger_lib.specs.declared.style.Style.{Style}
use Rattle.hashbag_text.specs.declared.encoding.Encoding.{Encoding}

-- how files are written: with the mark of the job's options, else the mark of `kept`, and so with the delimiter. If `kept` has the mark `.` and
-- the delimiter `;`, and the only option of the job is `--mark ,`, the mark is `,` and the delimiter `;`
abbrev pub style_by : Job → Style → Style
style_by job kept = record { scale = kept.scale; mark = unwrap_or job.mark kept.mark; delimiter = unwrap_or job.delimiter kept.delimiter }

-- n decimals, or none if n is more than any scale has
abbrev pub decimals_by : ℕ → ℕ
decimals_by n = if nat_le n most_decimals then n else 0

-- the mark before the decimals of a style, or `.` if no scale has as many decimals
abbrev pub mark_by : Style → Mark
mark_by style = if nat_le style.scale most_decimals then style.mark else Point

-- texts have the delimiter of `style_by`, and numbers its mark and the decimals of `kept`. If no scale has so many decimals, numbers have none,
-- and the mark is `.`. A number is at most 2^63-1
pub record IsReadingOf (job : Job) (kept : Style) (reading : Reading) : Type 0 where
  pub delimiter : reading.delimiter ≡ (style_by job kept).delimiter
  pub decimals : reading.scale.decimals ≡ decimals_by kept.scale
  pub mark : reading.scale.mark ≡ mark_by (style_by job kept)
  pub most : reading.scale.most ≡ 2 ^ 63 - 1

-- the style that a new stock keeps at first: as many decimals as the job asks for, or none if the job names no scale
abbrev pub asked_style : Job → Style
asked_style job = plain_style (unwrap_or job.scale 0)

-- the columns of a change: kind and number, or a signed number alone
abbrev pub change_named : Option (String Global) → String Global → ChangeColumns (List ℕ)
change_named None number = Signed (string_bytes number)
change_named (Some kind) number = ByKind (string_bytes kind) (string_bytes number)

-- the names of the columns that a stock keeps
abbrev pub kept_names : KeptColumns → Columns (List ℕ)
kept_names kept = record { article = string_bytes kept.article; change = change_named kept.kind kept.number }

-- the names of the columns of a stock that keeps none
abbrev pub plain_names : Columns (List ℕ)
plain_names = record { article = codes "article"; change = Signed (codes "change") }

-- the names of the columns of movements: the names that the job has, else `kept`
abbrev pub names_by : Job → Columns (List ℕ) → Columns (List ℕ)
names_by job kept = elim job.columns [ None ↦ kept | Some given ↦ names_now given ]

-- the encoding of the job's stock at the beginning, or of its movements
abbrev pub encoding_of : Job → Bool → Option Encoding
encoding_of job is_start = if is_start then job.start_encoding else job.encoding

-- the names of the columns of dates and of notes, as bytes
abbrev pub extras_now : ExtraColumns (Bor (List ℕ)) → ExtraColumns (List ℕ)
extras_now names = columns_of (λ n. n.now) names

-- the names of the columns of dates and of notes that a stock keeps
abbrev pub kept_extras : KeptExtras → ExtraColumns (List ℕ)
kept_extras kept = record { date = option_map string_bytes kept.date; note = option_map string_bytes kept.note }

-- the names of the columns of dates and of notes of a stock that keeps no such names
abbrev pub no_extras : ExtraColumns (List ℕ)
no_extras = record { date = None; note = None }

-- the name of a column of dates or notes, or `None` without a column. The job decides if it has `Some`: `Some None` is no column. Else `kept`
abbrev pub extra_by : Option (Option (Bor (List ℕ))) → Option (List ℕ) → Option (List ℕ)
extra_by None kept = kept
extra_by (Some given) kept = option_map (λ n. n.now) given

-- the columns of dates and of notes of movements: for each, the column of the job, else the column of `kept`
abbrev pub extras_by : Job → ExtraColumns (List ℕ) → ExtraColumns (List ℕ)
extras_by job kept = record { date = extra_by job.extras.date kept.date; note = extra_by job.extras.note kept.note }

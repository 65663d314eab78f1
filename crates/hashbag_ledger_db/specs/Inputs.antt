-- The inputs of a call: which they are, and what is known of each.
use Rattle.std.specs.Prelude.{◌≡◌, ◌++◌, ℕ, Bool, true, false, List, All, map, Option, Some, IfSome, string_bytes}
use Rattle.std.specs.Option.{option_to_list}
use Rattle.hex.specs.Hex.{encode_lower}
use Rattle.sha2.specs.Sha256.{sha256}
use Rattle.hashbag_ledger_db.specs.Readings.{encoding_of}
use Rattle.hashbag_ledger_db.specs.declared.job.Job.{Job}
use Rattle.hashbag_ledger_db.specs.Filed.{IsFiledIn}
use Rattle.hashbag_ledger_db.specs.declared.entering.Ready.{Ready}
use Rattle.hashbag_ledger_db.specs.declared.entering.EnterReport.{EnterReport}
use Rattle.hashbag_ledger_db.specs.declared.movements.Input.{Input}
use Rattle.hashbag_ledger_db.specs.declared.stock.tables.Contents.{Contents}
use Rattle.hashbag_text.specs.Encodings.{text_in}
use Rattle.hashbag_text.specs.declared.encoding.Encoding.{Encoding}

-- an input has the text of these bytes, and their SHA-256, in hexadecimal digits
abbrev pub HasTextOf : Option Encoding → List ℕ → Input → Type 0
HasTextOf encoding bytes input = (text_in encoding bytes ≡ Some input.text.items) × (string_bytes input.sha256 ≡ encode_lower (sha256 bytes))

-- an input was read from its file; `gives file bytes` says that the file has these bytes
pub record IsRead (gives : List ℕ → List ℕ → Type 0) (job : Job) (input : Input) : Type 0 where
  pub bytes : List ℕ
  pub given : gives input.file.now bytes
  pub text : HasTextOf (encoding_of job input.is_start) bytes input

-- the name of an input, and whether it is the opening stock
abbrev pub name_and_kind : Input → List ℕ × Bool
name_and_kind input = (input.file.now, input.is_start)

-- what a job names as its inputs, in turn: the opening stock, if there is one, and then the files of movements
abbrev pub names_in : Job → List (List ℕ × Bool)
names_in job = map (λ file. (file.now, true)) (option_to_list job.from) ++ map (λ file. (file.now, false)) job.files.items

-- these are the inputs that a job names, each with the text of its file and the SHA-256 of its bytes
pub record AreInputsOf (gives : List ℕ → List ℕ → Type 0) (job : Job) (inputs : List Input) : Type 0 where
  pub are : map name_and_kind inputs ≡ names_in job
  pub read : All (IsRead gives job) inputs

-- `ready` is the result of entering all inputs of the job into its database; `has db contents` says that the database has these contents
pub record IsReadyOf (gives : List ℕ → List ℕ → Type 0) (has : List ℕ → Contents → Type 0) (job : Job) (ready : Ready) : Type 0 where
  pub inputs : List Input
  pub are : AreInputsOf gives job inputs
  pub contents : Contents
  pub opened : has job.db.now contents
  pub filed : IsFiledIn job contents inputs ready

-- `report.ready`, if the database was opened, is the result of entering all inputs of the job into the contents of the database
abbrev pub IsReportReady : (List ℕ → List ℕ → Type 0) → (List ℕ → Contents → Type 0) → Job → EnterReport → Type 0
IsReportReady gives has job report = IfSome report.ready (IsReadyOf gives has job)

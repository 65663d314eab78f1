-- What a run over a reader and a writer did, if their contracts know their bytes. `before` and `after` are the bytes that the reader still has;
-- `old` and `new` are the bytes that the writer has.
use Rattle.std.specs.Prelude.{◌≡◌, ◌⊎◌, ℕ, List, ◌++◌, Option}
use Rattle.std.specs.Io.KnownBytes.{Consumes, IsAtEnd, Appends, Keeps}
use Rattle.hashbag_run_lib.specs.Lines.{no_memory}
use Rattle.hashbag_run_lib.specs.Output.{IsRunOf}
use Rattle.hashbag_run_lib.specs.Program.{NamesBadLine}

-- a status with which a run may end
abbrev pub IsStatus : ℕ → Type 0
IsStatus status = (status ≡ 0) ⊎ ((status ≡ 2) ⊎ ((status ≡ 3) ⊎ (status ≡ 4)))

-- the known bytes of a writer grew by a beginning of the text
pub record AppendsPart (old new : Option (List ℕ)) (text : List ℕ) : Type 0 where
  pub part : List ℕ
  pub rest : List ℕ
  pub is : text ≡ part ++ rest
  pub appended : Appends old new part

-- the text was written whole, and the status is `wanted`; or a write failed after a beginning of the text, and the status is 4
abbrev pub IsSent : Option (List ℕ) → Option (List ℕ) → List ℕ → ℕ → ℕ → Type 0
IsSent old new text wanted status = ((status ≡ wanted) × Appends old new text) ⊎ ((status ≡ 4) × AppendsPart old new text)

-- the reader returned all its bytes, and P holds of these bytes and the text
pub record IsReadAs (P : List ℕ → List ℕ → Type 0) (before after : Option (List ℕ)) (text : List ℕ) : Type 0 where
  pub input : List ℕ
  pub read : Consumes before after input
  pub ended : IsAtEnd after
  pub is : P input text

-- a text was written whole, and P holds of the bytes that the reader returned and this text
pub record ReadsAndWrites (P : List ℕ → List ℕ → Type 0) (before after old new : Option (List ℕ)) : Type 0 where
  pub text : List ℕ
  pub is : IsReadAs P before after text
  pub written : Appends old new text

-- the text is the output of the whole input, or names its first bad line, or is `no memory`
abbrev pub IsToBeWritten : Option (List ℕ) → Option (List ℕ) → List ℕ → Type 0
IsToBeWritten before after text = (text ≡ no_memory) ⊎ (IsReadAs IsRunOf before after text ⊎ IsReadAs NamesBadLine before after text)

-- a beginning of a text that is to be written was written
pub record IsCutShort (before after old new : Option (List ℕ)) : Type 0 where
  pub text : List ℕ
  pub is : IsToBeWritten before after text
  pub written : AppendsPart old new text

-- what was written, by status: 0, the output of the whole input; 2, the number of its first bad line; 3, `no memory`; 4, nothing, or a
-- beginning of one of these texts
pub record IsExecution (before after old new : Option (List ℕ)) (status : ℕ) : Type 0 where
  pub done : status ≡ 0 → ReadsAndWrites IsRunOf before after old new
  pub bad_line : status ≡ 2 → ReadsAndWrites NamesBadLine before after old new
  pub memory : status ≡ 3 → Appends old new no_memory
  pub failed : status ≡ 4 → Keeps old new ⊎ IsCutShort before after old new

-- `IsExecution`, of the bytes that `remaining` and `contents` know of a reader and a writer, before and after the run
abbrev pub ExecutesOn : {R W : Type 0} → (R → Option (List ℕ)) → (W → Option (List ℕ)) → R → R → W → W → ℕ → Type 0
ExecutesOn remaining contents reader reader' writer writer' status =
    IsExecution (remaining reader) (remaining reader') (contents writer) (contents writer') status

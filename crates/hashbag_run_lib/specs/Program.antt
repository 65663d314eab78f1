-- What the program writes after an input, and its status.
use Rattle.std.specs.Prelude.{◌≡◌, ℕ, List, Some, string_bytes}
use Rattle.hashbag_run_lib.specs.declared.answer.Outcome.{Outcome}
use Rattle.hashbag_run_lib.specs.declared.answer.Outcome.TheVariants.{Done, BadLine, NoMemory}
use Rattle.hashbag_run_lib.specs.Commands.{first_bad}
use Rattle.hashbag_run_lib.specs.Lines.{bad_line, no_memory}
use Rattle.hashbag_run_lib.specs.Output.{IsRunOf}

-- the input has a bad line, and the text names the first one
pub record NamesBadLine (input text : List ℕ) : Type 0 where
  pub number : ℕ
  pub first : first_bad input ≡ Some number
  pub is : text ≡ bad_line number

-- the outcome of an input: the output of its steps, or the number of its first bad line; or, of any input, a failed allocation
abbrev pub IsAnswerTo : List ℕ → Outcome → Type 0
IsAnswerTo input (Done text) = IsRunOf input (string_bytes text)
IsAnswerTo input (BadLine text) = NamesBadLine input (string_bytes text)
IsAnswerTo input NoMemory = Unit {0}

-- the text of an outcome
abbrev pub text_of : Outcome → List ℕ
text_of (Done text) = string_bytes text
text_of (BadLine text) = string_bytes text
text_of NoMemory = no_memory

-- the status of an outcome
abbrev pub status_of : Outcome → ℕ
status_of (Done text) = 0
status_of (BadLine text) = 2
status_of NoMemory = 3

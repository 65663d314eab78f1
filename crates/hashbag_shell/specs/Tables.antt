-- Which arguments the lines of a table declare.
use Rattle.std.specs.Prelude.{◌∷◌, ◌++◌, ◌==◌, ℕ, Bool, List, Option, Some, None, [], codes, if◌then◌else◌, length, map}
use Rattle.std.specs.Borrow.{Bor}
use Rattle.std.specs.List.{after_first, before_first, list_any, slice_split}
use Rattle.std.specs.Str.{bytes_eq}
use Rattle.clap.specs.Facts.{args_of}
use Rattle.clap.specs.declared.builder.command.Command.{Command}

-- the text before the first space: the whole text if it has none
abbrev pub first_word : List ℕ → List ℕ
first_word text = before_first (λ b. b == 32) text

-- the text behind the first space
abbrev pub rest_of : List ℕ → List ℕ
rest_of text = after_first (λ b. b == 32) text

-- whether a list of words, with a space between them, has this word
abbrev pub is_word_in : List ℕ → List ℕ → Bool
is_word_in word list = list_any (λ other. bytes_eq other word) (slice_split (λ b. b == 32) list)

-- the program itself has the empty name
abbrev pub is_of_program : List ℕ → Bool
is_of_program job = length job == 0

-- the name of the argument that a line declares: none if the line begins with a mark, which is a single byte
abbrev pub declared_by : List ℕ → List (List ℕ)
declared_by line = if length (first_word line) == 1 then [] else first_word line ∷ []

-- the names of the arguments that lines declare for a subcommand; `is_of_job` says whether the first line is of it
abbrev pub declared : List ℕ → Bool → List (List ℕ) → List (List ℕ)
declared job is_of_job [] = []
declared job is_of_job (line ∷ lines) =
    if bytes_eq (first_word line) (codes "@") then declared job (is_word_in job (rest_of line)) lines
    else (if is_of_job then declared_by line else []) ++ declared job is_of_job lines

-- the names of the arguments that lines declare for a subcommand, all of them
abbrev pub arguments_of : List ℕ → List (Bor (List ℕ)) → List (List ℕ)
arguments_of job lines = declared job (is_of_program job) (map (λ line. line.now) lines)

-- the names of a command's arguments
abbrev pub argument_names : Command → List (List ℕ)
argument_names command = map (λ arg. arg.id.now) (args_of command)

-- the name of the subcommand that a line declares
abbrev pub job_of : List ℕ → Option (List ℕ)
job_of line = if bytes_eq (first_word line) (codes ":") then Some (first_word (rest_of line)) else None

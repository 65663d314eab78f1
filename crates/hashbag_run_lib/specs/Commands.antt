-- The program's input: the commands of its lines. A line ends at each byte 10, and a word at each byte 32.
use Rattle.std.specs.Prelude.{◌≡◌, ℕ, ◌+◌, ◌^◌, ◌%◌, ◌==◌, nat_lt, nat_le, if◌then◌else◌, Bool, ◌&&◌, ◌||◌, List, [], ◌∷◌, ◌++◌, length, map, flat_map, filter_map, position, bytes_eq, codes, Option, Some, None, is_none, option_map, option_and_then, option_to_list}
use Rattle.std.specs.List.{slice_split, list_any, list_all}
use Rattle.std.specs.Char.{is_ascii_digit}
use Rattle.std.specs.Str.Parse.{digits_value}
use Rattle.hashbag_script.specs.declared.script.Step.{Step}
use Rattle.hashbag_script.specs.declared.script.Step.TheVariants.{Insert, InsertMany, Replace, Remove, RemoveUpTo, TryTake, TakeAll, EntrySet, EntryOr, Retain, Clear, Count, Reserve, ShrinkToFit, Limit}

-- the number that a word is: 1 to 20 decimal digits, and less than 2^64; else none
abbrev pub number_in : List ℕ → Option ℕ
number_in word =
    let n = digits_value 10 word in
    if (list_all is_ascii_digit word && nat_lt 0 (length word)) && (nat_le (length word) 20 && nat_lt n (2 ^ 64)) then Some n else None

-- the numbers that the words are, or none if a word is no number
abbrev pub numbers_in : List (List ℕ) → Option (List ℕ)
numbers_in [] = Some []
numbers_in (word ∷ words) = option_and_then (λ n. option_map (λ ns. n ∷ ns) (numbers_in words)) (number_in word)

-- a step as it is written in a line: a verb, and the numbers after it
abbrev pub Command : Type 0
Command = List ℕ × List ℕ

-- each verb, and how many numbers it takes. `retain` isn't listed: it takes any even number of them
abbrev pub verbs : List (List ℕ × ℕ)
verbs =
    (codes "insert", 1) ∷ (codes "many", 2) ∷ (codes "replace", 1) ∷ (codes "remove", 1) ∷ (codes "upto", 2)
    ∷ (codes "try", 1) ∷ (codes "all", 1) ∷ (codes "set", 2) ∷ (codes "or", 2) ∷ (codes "clear", 0)
    ∷ (codes "count", 1) ∷ (codes "reserve", 1) ∷ (codes "shrink", 0) ∷ (codes "limit", 1) ∷ []

-- whether a verb takes this many numbers
abbrev pub takes : List ℕ → ℕ → Bool
takes verb many = (bytes_eq verb (codes "retain") && (many % 2 == 0)) || list_any (λ v. bytes_eq verb v.0 && (many == v.1)) verbs

-- the command of a verb and numbers, or none if the verb doesn't take as many
abbrev pub command : List ℕ → List ℕ → Option Command
command verb numbers = if takes verb (length numbers) then Some (verb, numbers) else None

-- the command of words: the first word is the verb
abbrev pub command_in : List (List ℕ) → Option Command
command_in [] = None
command_in (verb ∷ words) = option_and_then (command verb) (numbers_in words)

-- the command of words whose first word names this bag; else none
abbrev pub command_after : List ℕ → List (List ℕ) → Option Command
command_after bag [] = None
command_after bag (name ∷ words) = if bytes_eq name bag then command_in words else None

-- the command of a line on the bag of this name, or none
abbrev pub command_on : List ℕ → List ℕ → Option Command
command_on bag line = command_after bag (slice_split (λ b. b == 32) line)

-- whether a line is bad: neither empty nor a command on a or b
abbrev pub is_bad : List ℕ → Bool
is_bad line = nat_lt 0 (length line) && (is_none (command_on (codes "a") line) && is_none (command_on (codes "b") line))

-- the lines of an input: its parts between line feeds
abbrev pub lines_of : List ℕ → List (List ℕ)
lines_of input = slice_split (λ b. b == 10) input

-- the number of the first bad line, counted from 1
abbrev pub first_bad : List ℕ → Option ℕ
first_bad input = option_map (λ k. k + 1) (position is_bad (lines_of input))

-- the commands of an input on the bag of this name
abbrev pub commands_of : List ℕ → List ℕ → List Command
commands_of bag input = filter_map (command_on bag) (lines_of input)

-- the command that is written for a step
abbrev pub command_of : Step ℕ → Command
command_of (Insert v) = (codes "insert", v ∷ [])
command_of (InsertMany v n) = (codes "many", v ∷ n ∷ [])
command_of (Replace v) = (codes "replace", v ∷ [])
command_of (Remove v) = (codes "remove", v ∷ [])
command_of (RemoveUpTo v n) = (codes "upto", v ∷ n ∷ [])
command_of (TryTake v) = (codes "try", v ∷ [])
command_of (TakeAll v) = (codes "all", v ∷ [])
command_of (EntrySet v n) = (codes "set", v ∷ n ∷ [])
command_of (EntryOr v n) = (codes "or", v ∷ n ∷ [])
command_of (Retain pairs) = (codes "retain", flat_map (λ p. p.0 ∷ p.1 ∷ []) pairs.items)
command_of Clear = (codes "clear", [])
command_of (Count v) = (codes "count", v ∷ [])
command_of (Reserve n) = (codes "reserve", n ∷ [])
command_of ShrinkToFit = (codes "shrink", [])
command_of (Limit n) = (codes "limit", n ∷ [])

-- the steps `new` are the steps `old`, followed by the step of the line if the line is a command on the bag of this name
abbrev pub AppendsCommand : List ℕ → List ℕ → List (Step ℕ) → List (Step ℕ) → Type 0
AppendsCommand bag line old new = map command_of new ≡ map command_of old ++ option_to_list (command_on bag line)

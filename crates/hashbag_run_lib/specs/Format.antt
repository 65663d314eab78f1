-- The steps of an input, and its first bad line.
use Rattle.std.specs.Prelude.{◌≡◌, ℕ, List, map, codes, Option, Some, None}
use Rattle.hashbag_script.specs.declared.script.Step.{Step}
use Rattle.hashbag.specs.Script.{Steps}
use Rattle.hashbag_run_lib.specs.declared.lines.Line.{Line}
use Rattle.hashbag_run_lib.specs.declared.lines.Line.TheVariants.{A, B, Other}
use Rattle.hashbag_run_lib.specs.declared.lines.LinesError.{LinesError}
use Rattle.hashbag_run_lib.specs.declared.lines.LinesError.TheVariants.{BadLine, Memory}
use Rattle.hashbag_run_lib.specs.Commands.{command_of, commands_of, first_bad}

-- no line of the input is bad, and the lists a and b are the steps of its lines on a and on b, in order
pub record AreStepsOf (input : List ℕ) (a b : Steps ℕ) : Type 0 where
  pub none_bad : first_bad input ≡ None
  pub first : map command_of a ≡ commands_of (codes "a") input
  pub second : map command_of b ≡ commands_of (codes "b") input

-- the line with this number is the first bad line; after a failed allocation nothing is said
abbrev pub IsBadLineOf : List ℕ → LinesError → Type 0
IsBadLineOf input (BadLine number) = first_bad input ≡ Some number
IsBadLineOf input Memory = Unit {0}

-- the step of a line on a, or none
abbrev pub step_on_a : Line → Option (Step ℕ)
step_on_a (A step) = Some step
step_on_a (B step) = None
step_on_a Other = None

-- the step of a line on b, or none
abbrev pub step_on_b : Line → Option (Step ℕ)
step_on_b (A step) = None
step_on_b (B step) = Some step
step_on_b Other = None

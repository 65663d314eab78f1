-- The status with which a program ends, by the kind of its trouble.
use Rattle.std.specs.Prelude.{◌≢◌, ℕ, if◌then◌else◌, ⊤}
use Rattle.std.specs.IoError.{error_kind}
use Rattle.std.specs.declared.io.ErrorKind.TheVariants.{BrokenPipe}
use Rattle.hashbag_shell.specs.declared.trouble.Trouble.{Trouble}
use Rattle.hashbag_shell.specs.declared.trouble.Trouble.TheVariants.{Printed, NotText, Arguments, File, BadLine, Other, Memory, MemoryIn, Random, Write}

-- 2: an argument or a line is bad; 3: an allocation failed; 4: the system failed; 5: a total is too large; `Printed` and `Other` have their own
abbrev pub status_of : Trouble → ℕ
status_of (Printed status) = status
status_of NotText = 2
status_of (Arguments what) = 2
status_of (File file error) = 4
status_of (BadLine file line what is_total) = if is_total then 5 else 2
status_of (Other what status) = status
status_of Memory = 3
status_of (MemoryIn file lines) = 3
status_of (Random error) = 4
status_of (Write error) = 4

-- a message is written, except for `Printed`, and for a write to a pipe that nobody reads any more
abbrev pub IsReported : Trouble → Type 0
IsReported (Printed status) = ⊥
IsReported (Write error) = error_kind error ≢ BrokenPipe
IsReported _ = ⊤

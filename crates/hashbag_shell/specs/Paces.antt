-- Shares of work, for reports of progress.
use Rattle.std.specs.Prelude.{ℕ, Option, None, Some, if◌then◌else◌, ◌==◌, ◌*◌, ◌/◌}

-- n * part / whole, rounded down; `None` if the whole is 0
abbrev pub share : ℕ → ℕ → ℕ → Option ℕ
share n part whole = if whole == 0 then None else Some (n * part / whole)

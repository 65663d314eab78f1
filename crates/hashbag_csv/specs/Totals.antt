-- Totals that are too large, and their errors.
use Rattle.std.specs.Prelude.{◌≡◌, ℕ, Bool, true, false}
use Rattle.std.specs.String.{string_bytes}
use Rattle.hashbag_csv.specs.Decimals.{IsDecimal, units}
use Rattle.hashbag_csv.specs.declared.fault.Fault.{Fault}
use Rattle.hashbag_csv.specs.declared.fault.Fault.TheVariants.{TotalPastMost}
use Rattle.hashbag_csv.specs.declared.fault.SheetError.{SheetError}
use Rattle.hashbag_csv.specs.declared.fault.SheetError.TheVariants.{Line, Memory}

-- whether a line's fault is that a total is too large
abbrev pub is_total_fault : Fault → Bool
is_total_fault (TotalPastMost most) = true
is_total_fault _ = false

-- whether an error is that a total is too large
abbrev pub is_total : SheetError → Bool
is_total (Line line fault) = is_total_fault fault
is_total Memory = false

-- the fault that a total is past `most` units of 10^-D
abbrev pub IsTotalPastMost : ℕ → ℕ → ℕ → Fault → Type 0
IsTotalPastMost mark D most (TotalPastMost greatest) = IsDecimal mark D (string_bytes greatest) × (units mark D (string_bytes greatest) ≡ most)
IsTotalPastMost mark D most _ = ⊥

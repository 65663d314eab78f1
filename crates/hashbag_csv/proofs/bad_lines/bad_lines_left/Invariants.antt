use Rattle.std.proofs.Common.{◌≡◌, ◌++◌, ◌≤◌, List, Option, length}
use Rattle.hashbag_csv.specs.BadLines.{AreChecks, IsCheckOf, errors_in}
use Rattle.hashbag_csv.specs.LineColumns.{form_of, number_place}
use Rattle.hashbag_csv.specs.Readers.{Record}
use Rattle.hashbag_csv.specs.Sheets.{is_short_allowed, left, width_of}
use Rattle.hashbag_csv.specs.declared.fault.SheetError.{SheetError}
use Rattle.hashbag_csv.proofs.bad_lines.bad_lines_left.Given as goal

-- the records so far, and the check of each
abbrev pub invariant-lines : goal.invariant-lines
invariant-lines g l = record {
  read : List Record;
  checks : List (Option SheetError);
  all : left l.fn.sheet ≡ read ++ left l.sheet;
  each : AreChecks (IsCheckOf l.scale (form_of l.columns).number (number_place l.columns) (is_short_allowed l.fn.sheet) (width_of l.fn.sheet)) read checks;
  named : l.errors.items ≡ errors_in checks;
  few : length l.errors.items ≤ l.max_errors;
  width : width_of l.sheet ≡ width_of l.fn.sheet;
  short : is_short_allowed l.sheet ≡ is_short_allowed l.fn.sheet;
}

-- a record less is left
abbrev pub decreases-lines : goal.decreases-lines
decreases-lines g l = length (left l.sheet)

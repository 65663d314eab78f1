use Rattle.std.proofs.Common.{◌≡◌, []}
use Rattle.csv.specs.Records.{fields_of, partial_of}
use Rattle.hashbag_csv.specs.Lines.{column_numbers}
use Rattle.hashbag_csv.proofs.sheet.numbers_to.Given as goal

-- the numbers so far
abbrev pub invariant-columns : goal.invariant-columns
invariant-columns l = (fields_of l.record ≡ column_numbers l.before) × (partial_of l.record ≡ [])

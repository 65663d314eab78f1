use Rattle.std.proofs.Common.{◌≡◌, ◌≤◌, ◌++◌, length, map}
use Rattle.hashbag_csv.specs.LineColumns.{line_by}
use Rattle.hashbag_csv.specs.Quantities.{number_sum}
use Rattle.hashbag_csv.specs.Sheets.{left}
use Rattle.hashbag_csv.specs.Counts.{count_line, counts_in}
use Rattle.hashbag_csv.proofs.counts.read_counts_as.Given as goal

-- the lines so far, with those of the records that are left, are all of the text, and their numbers add up to the total, which fits
abbrev pub invariant-lines : goal.invariant-lines
invariant-lines l = record {
  lines : counts_in l.reading l.article l.number l.text ≡ map count_line l.counts.items ++ map (line_by l.reading.scale l.columns) (left l.sheet);
  sum : number_sum l.counts.items ≡ l.total;
  fits : l.total ≤ l.reading.scale.most;
}

-- a record less is left
abbrev pub decreases-lines : goal.decreases-lines
decreases-lines l = length (left l.sheet)

use Rattle.std.proofs.Common.{rules, ◌≡◌, ◌+◌, ◌++◌, ℕ, List, String, Global, true, is_ok, length, map, arith, sym, ◌∙◌, ap}
use Rattle.std.proofs.lemmas.List.Sums.{sum_by_push}
use Rattle.hashbag_csv.specs.LineColumns.{form_of, key_places, line_by, number_place}
use Rattle.hashbag_csv.specs.Quantities.{number_sum}
use Rattle.hashbag_csv.specs.Sheets.{left, read_last}
use Rattle.hashbag_csv.specs.Counts.{count_line}
use Rattle.hashbag_csv.proofs.CountLemmas.{all_read, one_read, under_header}
use Rattle.hashbag_csv.proofs.counts.read_counts_as.Goals as goal

-- all records are left
pub lines-init : goal.lines-init
lines-init c =
    let columns = c.in_ok-columns.columns in
    let sheet = c.in_ok-sheet.sheet in
    record {
      lines = under_header c.args.reading.scale c.args.article.now c.args.number.now _ (read_last sheet) (left sheet) (form_of columns) (key_places columns) (number_place columns)
          c.in_ok-sheet.ensures c.in_ok-columns.ensures.form c.in_ok-columns.ensures.article c.in_ok-columns.ensures.number
          ∙ ap (λ (l : List (String Global × ℕ)). map count_line l ++ map (line_by c.args.reading.scale columns) (left sheet)) (sym c.new-counts.ensures.items);
      sum = search rules;
      fits = search rules;
    }

-- one line more
pub lines-preserved : goal.lines-preserved
lines-preserved c =
    let pushed : is_ok c.push.result ≡ true = sym (rw c.in_ok-map_err.was at c.map_err.ensures.variant) in
    let noted = rw pushed at c.push.ensures.items in
    let (r, next, same) = rw c.in-Some.is at c.in_ok-name.ensures.line in
    record {
      lines = one_read (line_by c.args.reading.scale c.in_ok-columns.columns) _ c.lines.counts.items _ (c.in-Some.name, c.in-Some.n) (left c.lines.sheet) (left c.read.new.sheet) r c.lines.invariant.lines next same noted;
      sum = ap number_sum noted ∙ sum_by_push (λ (e : String Global × ℕ). e.1) c.lines.counts.items (c.in-Some.name, c.in-Some.n) ∙ ap (λ (k : ℕ). k + c.in-Some.n) c.lines.invariant.sum ∙ sym c.in_ok-total.ensures.sum;
      fits = search rules;
    }

-- a record less is left
pub lines-smaller : goal.lines-smaller
lines-smaller c =
    let (r, next, same) = rw c.in-Some.is at c.in_ok-name.ensures.line in
    let long = ap length next in
    omega (arith, long)

-- no record is left
pub returns-clause-lines : goal.returns-clause-lines
returns-clause-lines c =
    let none = rw c.in_default.is at c.in_ok-name.ensures.line in
    all_read (line_by c.args.reading.scale c.in_ok-columns.columns) _ (map count_line c.lines.counts.items) (left c.lines.sheet) c.lines.invariant.lines none

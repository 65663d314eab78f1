use Rattle.std.proofs.Common.{◌++◌, List, map, subst}
use Rattle.hashbag_csv.specs.FirstLines.{Carried, HasFirsts}
use Rattle.hashbag_csv.specs.Sheets.{left, place, read_last}
use Rattle.hashbag_csv.proofs.FirstLemmas.{all_carried}
use Rattle.hashbag_csv.proofs.first_lines.add_first_lines.Goals as goal

-- the lines of the records below the header
pub returns : goal.returns
returns g c = λ K before.
    let sheet = c.in-Some.sheet in
    let records = rw c.in-Some.is at c.in_ok-sheet.ensures.records in
    let is = all_carried c.args.form.key c.args.names.keys.now c.args.names.carried.now _ (read_last sheet) (left sheet) (map place c.in_ok-keys.keys.items) (map place c.in_ok-carried.carried.items)
    records c.in_ok-keys.ensures c.in_ok-carried.ensures in
    subst (λ (l : List Carried). HasFirsts g.A.PartialEq.eq g.A.Article.fields (K ++ l) c.add_lines.new.firsts) is (c.in_ok-add_lines.ensures K before)

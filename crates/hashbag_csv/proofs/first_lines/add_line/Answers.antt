use Rattle.std.proofs.Common.{◌++◌, ◌∷◌, ◌∙◌, [], map, sym, subst}
use Rattle.hashbag_csv.specs.FirstLines.{HasFirsts, as_it_is}
use Rattle.hashbag_csv.specs.Lines.{fields_at}
use Rattle.hashbag_csv.specs.Readers.{Record}
use Rattle.hashbag_csv.specs.Sheets.{place, read_last}
use Rattle.hashbag_csv.proofs.FirstLemmas.{first_line, later_line}
use Rattle.hashbag_csv.proofs.first_lines.add_line.Goals as goal

-- a line with its article is there
pub returns-then-contains_key : goal.returns-then-contains_key
returns-then-contains_key g c = λ K before.
    let carried = fields_at as_it_is (map place c.args.columns.now.carried.items) (read_last c.args.sheet.now) in
    let article = rw c.deref.ensures.value at c.in_ok-article.ensures.fields in
    subst (λ (k : Record). HasFirsts g.A.PartialEq.eq g.A.Article.fields (K ++ (k, carried) ∷ []) c.args.firsts.now) article
    (later_line g.A.PartialEq.eq g.A.Article.fields g.met.A.Article.same K c.args.firsts.now c.in_ok-article.article carried before (sym c.contains_key.ensures ∙ c.if-contains_key.true))

-- the first line with its article
pub returns-in-Ok : goal.returns-in-Ok
returns-in-Ok g c = λ K before.
    let carried = fields_at as_it_is (map place c.args.columns.now.carried.items) (read_last c.args.sheet.now) in
    let article = rw c.deref.ensures.value at c.in_ok-article.ensures.fields in
    subst (λ (k : Record). HasFirsts g.A.PartialEq.eq g.A.Article.fields (K ++ (k, carried) ∷ []) c.insert.new.self) article
    (first_line g.A.PartialEq.eq g.A.Article.fields g.met.A.Article.same K c.args.firsts.now c.insert.new.self c.in_ok-article.article c.in_ok-fields.fields carried (rw c.deref-2.ensures.value at c.in_ok-fields.ensures.fields) before
    (sym c.contains_key.ensures ∙ c.if-contains_key.false) c.in-Ok.ensures.updates)

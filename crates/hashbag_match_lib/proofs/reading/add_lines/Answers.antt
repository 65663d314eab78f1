use Rattle.std.proofs.Common.{◌≡◌, ◌++◌, ◌∷◌, [], ◌∙◌, refl, sym, ap, subst, length, map, arith, List, All, ℕ, true}
use Rattle.std.proofs.lemmas.List.{append-nil}
use Rattle.std.proofs.lemmas.List.Elements.{All-cons, All-nil}
use Rattle.hashbag_csv.specs.LineColumns.{line_by, line_bytes, HasNumberBy}
use Rattle.hashbag_csv.specs.Readers.{Record}
use Rattle.hashbag_csv.specs.Sheets.{fits_header, fits_sheet, left, read_last}
use Rattle.hashbag_match_lib.specs.Fields.{IsTallyOfLines}
use Rattle.hashbag_match_lib.proofs.LineLemmas.{more_lines, no_lines, record_read}
use Rattle.hashbag_match_lib.proofs.reading.add_lines.Goals as goal

pub lines-init : goal.lines-init
lines-init g c = record {
  D = [];
  all = refl;
  so_far = λ K before. no_lines g.A.PartialEq.eq g.A.Article.fields K _ _ before;
  width = refl;
  short = refl;
  numbers = λ rest. rest;
  fit = λ rest. rest;
}

-- one line more
pub lines-preserved : goal.lines-preserved
lines-preserved g c =
    let inv = c.lines.invariant in
    let (r, next, same) = rw c.in-Some.is at c.in_ok-article.ensures.line in
    let (first, fits) = rw c.in-Some.is at c.in_ok-article.ensures.fits in
    let has = rw c.in-Some.is at c.in_ok-article.ensures.number in
    let f = line_by c.args.scale c.args.columns.now in
    let read = read_last c.read.new.sheet in
    record {
      D = inv.D ++ line_bytes g.A.Article.fields (c.in-Some.article, c.in-Some.number) ∷ [];
      all = record_read f _ inv.D (left c.lines.sheet) (left c.read.new.sheet) r (line_bytes g.A.Article.fields (c.in-Some.article, c.in-Some.number)) inv.all next same;
      so_far = λ K before. more_lines g.A.PartialEq.eq g.A.Article.fields K inv.D c.in-Some.article c.in-Some.number c.lines.tally.counts c.lines.tally.zeros c.add_line.new.tally.counts c.add_line.new.tally.zeros c.in_ok-add_line.ensures (inv.so_far K before);
      width = c.read.ensures.same.0 ∙ inv.width;
      short = c.read.ensures.same.1 ∙ inv.short;
      numbers = λ rest. inv.numbers (subst (All (HasNumberBy c.args.scale c.args.columns.now)) (sym first) (All-cons (HasNumberBy c.args.scale c.args.columns.now) read (left c.read.new.sheet) has rest));
      fit = λ rest. inv.fit (subst (All (λ (x : Record). fits_sheet c.args.sheet.now x ≡ true)) (sym first)
          (All-cons (λ (x : Record). fits_sheet c.args.sheet.now x ≡ true) read (left c.read.new.sheet) ((λ i. fits_header (sym inv.short i) (sym inv.width i) read) ∙ fits) rest));
    }

-- a record less is left
pub lines-smaller : goal.lines-smaller
lines-smaller g c =
    let (r, next, same) = rw c.in-Some.is at c.in_ok-article.ensures.line in
    let long = ap length next in
    omega (arith, long)

-- no record is left
pub returns-clause-lines : goal.returns-clause-lines
returns-clause-lines g c =
    let inv = c.lines.invariant in
    let none = rw c.in_default.is at c.in_ok-article.ensures.line in
    let f = line_by c.args.scale c.args.columns.now in
    let done = inv.all ∙ ap (λ (l : List Record). inv.D ++ map f l) none ∙ append-nil inv.D in
    λ K before. subst (λ (l : List (Record × ℕ)). IsTallyOfLines g.A.PartialEq.eq g.A.Article.fields (K ++ l) c.lines.tally.counts c.lines.tally.zeros) (sym done) (inv.so_far K before)

pub returns-clause-fits : goal.returns-clause-fits
returns-clause-fits g c =
    let none = rw c.in_default.is at c.in_ok-article.ensures.line in
    c.lines.invariant.fit (subst (All (λ (x : Record). fits_sheet c.args.sheet.now x ≡ true)) (sym none) (All-nil (λ (x : Record). fits_sheet c.args.sheet.now x ≡ true)))

pub returns-clause-numbers : goal.returns-clause-numbers
returns-clause-numbers g c =
    let none = rw c.in_default.is at c.in_ok-article.ensures.line in
    c.lines.invariant.numbers (subst (All (HasNumberBy c.args.scale c.args.columns.now)) (sym none) (All-nil (HasNumberBy c.args.scale c.args.columns.now)))

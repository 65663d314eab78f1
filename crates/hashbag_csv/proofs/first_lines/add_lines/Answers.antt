use Rattle.std.proofs.Common.{◌++◌, ◌∷◌, ◌∙◌, [], List, length, map, refl, sym, ap, subst, append_assoc, arith}
use Rattle.std.proofs.lemmas.List.{append-nil}
use Rattle.hashbag_csv.specs.FirstLines.{Carried, HasFirsts, carried_by}
use Rattle.hashbag_csv.specs.Readers.{Record}
use Rattle.hashbag_csv.specs.Sheets.{left, read_last}
use Rattle.hashbag_csv.proofs.FirstLemmas.{one_carried}
use Rattle.hashbag_csv.proofs.first_lines.add_lines.Goals as goal

pub lines-init : goal.lines-init
lines-init g c = record {
  D = [];
  all = refl;
  so_far = λ K before. subst (λ (l : List Carried). HasFirsts g.A.PartialEq.eq g.A.Article.fields l c.args.firsts.now) (sym (append-nil K)) before;
}

-- one line more
pub lines-preserved : goal.lines-preserved
lines-preserved g c =
    let inv = c.lines.invariant in
    let f = carried_by c.args.form c.args.columns.now in
    let r = read_last c.read.new.self in
    let next = rw c.if-branch.true at c.in_ok-read.ensures.next in
    record {
      D = inv.D ++ f r ∷ [];
      all = one_carried f _ inv.D (left c.lines.sheet) (left c.read.new.self) r (f r) inv.all next refl;
      so_far = λ K before. subst (λ (l : List Carried). HasFirsts g.A.PartialEq.eq g.A.Article.fields l c.add_line.new.firsts) (append_assoc K inv.D (f r ∷ [])) (c.in_ok-add_line.ensures (K ++ inv.D) (inv.so_far K before));
    }

-- a record less is left
pub lines-smaller : goal.lines-smaller
lines-smaller g c =
    let next = rw c.if-branch.true at c.in_ok-read.ensures.next in
    let long = ap length next in
    omega (arith, long)

-- no record is left
pub returns : goal.returns
returns g c =
    let inv = c.lines.invariant in
    let f = carried_by c.args.form c.args.columns.now in
    let none = rw c.if-branch.false at c.in_ok-read.ensures.next in
    let done = inv.all ∙ ap (λ (l : List Record). inv.D ++ map f l) none ∙ append-nil inv.D in
    λ K before. subst (λ (l : List Carried). HasFirsts g.A.PartialEq.eq g.A.Article.fields (K ++ l) c.lines.firsts) (sym done) (inv.so_far K before)

use Rattle.std.proofs.Common.{◌++◌, ◌∷◌, ◌∙◌, [], refl, ap, length, arith, rules}
use Rattle.hashbag_csv.specs.BadLines.{IsCheckOf}
use Rattle.hashbag_csv.specs.LineColumns.{form_of, number_place}
use Rattle.hashbag_csv.specs.Sheets.{is_short_allowed, left, read_last, width_of}
use Rattle.hashbag_csv.proofs.BadLineLemmas.{errors_fit, named_more, one_read, check_by, checks_more}
use Rattle.hashbag_csv.proofs.bad_lines.bad_lines_left.Goals as goal

pub lines-init : goal.lines-init
lines-init g c = record {
  read = [];
  checks = [];
  all = refl;
  each = tt;
  named = search rules;
  few = search rules;
  width = refl;
  short = refl;
}

-- one record more
pub lines-preserved : goal.lines-preserved
lines-preserved g c =
    let inv = c.lines.invariant in
    let before = c.lines.sheet in
    let after = c.check_next.new.sheet in
    let v = c.in-Some.check in
    let (next, is) = rw c.in-Some.is at c.in_ok-check.ensures.check in
    let form = form_of c.args.columns.now in
    let number = number_place c.args.columns.now in
    let short = is_short_allowed c.args.sheet.now in
    let width = width_of c.args.sheet.now in
    record {
      read = inv.read ++ read_last after ∷ [];
      checks = inv.checks ++ v ∷ [];
      all = one_read (left c.args.sheet.now) inv.read (left before) (left after) (read_last after) inv.all next;
      each = checks_more (IsCheckOf c.args.scale form.number number short width) inv.read inv.checks (read_last after) v inv.each
          (check_by c.args.scale form.number number short (is_short_allowed before) width (width_of before) (read_last after) v inv.short inv.width is);
      named = named_more c.lines.errors.items c.push_error.new.errors.items inv.checks v c.in_ok-push_error.ensures inv.named;
      few = errors_fit c.lines.errors.items c.push_error.new.errors.items v c.args.max_errors c.in_ok-push_error.ensures (let below = c.lines-test.true in let long = c.len.ensures in omega (arith, below, long));
      width = c.check_next.ensures.same.0 ∙ inv.width;
      short = c.check_next.ensures.same.1 ∙ inv.short;
    }

-- a record less is left
pub lines-smaller : goal.lines-smaller
lines-smaller g c =
    let (next, is) = rw c.in-Some.is at c.in_ok-check.ensures.check in
    let long = ap length next in
    omega (arith, long)

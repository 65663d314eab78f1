use Rattle.std.proofs.Common.{◌≡◌, ◌∷◌, ◌++◌, [], List, All, true, is_ok, length, map, arith, sym, ◌∙◌, ap, subst}
use Rattle.std.proofs.lemmas.List.{map-append}
use Rattle.std.proofs.lemmas.List.Elements.{All-push}
use Rattle.hashbag_csv.specs.Sheets.{left, place, read_last}
use Rattle.hashbag_ledger_lib.specs.declared.extras.Extra.{Extra}
use Rattle.hashbag_ledger_lib.specs.Extras.{carried, columns_of, extra_in, HasNoBadDate}
use Rattle.hashbag_ledger_lib.proofs.ExtraLemmas.{columns_named, under_header}
use Rattle.hashbag_ledger_lib.proofs.ReadLemmas.{all_read, one_read}
use Rattle.hashbag_ledger_lib.proofs.extras.read_extras.Goals as goal

-- all records are left
pub records-init : goal.records-init
records-init c =
    let none = sym c.new-extras.ensures.items in
    let columns = columns_of place (columns_named c.in_ok-date.date c.in_ok-note.note) in
    record {
      dates = subst (λ (l : List Extra). All HasNoBadDate l) none (λ k d few. absurd (omega (arith, few)));
      read = under_header c.args.form c.args.names _ (read_last c.in_ok-sheet.sheet) (left c.in_ok-sheet.sheet) columns c.in_ok-sheet.ensures c.in_ok-date.ensures c.in_ok-note.ensures
          ∙ ap (λ (l : List Extra). map carried l ++ map (extra_in c.args.form columns) (left c.in_ok-sheet.sheet)) none;
    }

-- one more
pub records-preserved : goal.records-preserved
records-preserved c =
    let pushed : is_ok c.push.result ≡ true = sym (rw c.in_ok-map_err.was at c.map_err.ensures.variant) in
    let noted = rw pushed at c.push.ensures.items in
    let x = c.in-Some.extra in
    let (r, next, same) = rw c.in-Some.is at c.in_ok-extra.ensures.read in
    let f = extra_in c.args.form (columns_of place (columns_named c.in_ok-date.date c.in_ok-note.note)) in
    record {
      dates = subst (λ (l : List Extra). All HasNoBadDate l) (sym noted)
          (All-push HasNoBadDate c.records.extras.items x c.records.invariant.dates (rw c.in-Some.is at c.in_ok-extra.ensures.dates));
      read = one_read f _ (map carried c.records.extras.items) (left c.records.sheet) (left c.next_extra.new.sheet) r (carried x) c.records.invariant.read next same
          ∙ ap (λ l. l ++ map f (left c.next_extra.new.sheet)) (sym (map-append carried c.records.extras.items (x ∷ [])) ∙ ap (map carried) (sym noted));
    }

-- a record less is left
pub records-smaller : goal.records-smaller
records-smaller c =
    let (r, next, same) = rw c.in-Some.is at c.in_ok-extra.ensures.read in
    let long = ap length next in
    omega (arith, long)

-- no record is left
pub returns-clause-extras : goal.returns-clause-extras
returns-clause-extras c =
    let none = rw c.in_default.is at c.in_ok-extra.ensures.read in
    sym (all_read (extra_in c.args.form (columns_of place (columns_named c.in_ok-date.date c.in_ok-note.note))) _ (map carried c.records.extras.items) (left c.records.sheet) c.records.invariant.read none)

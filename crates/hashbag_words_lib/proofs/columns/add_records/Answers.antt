use Rattle.std.proofs.Common.{◌≡◌, ◌++◌, ◌∷◌, ◌∙◌, [], ℕ, List, All, get_or, length, map, refl, sym, ap, subst, true, arith}
use Rattle.std.proofs.lemmas.List.{append-nil, map-append}
use Rattle.std.proofs.lemmas.List.Elements.{All-cons, All-nil}
use Rattle.hashbag_csv.specs.Readers.{Record}
use Rattle.hashbag_csv.specs.Sheets.{fits_header, fits_sheet, left, place, read_last}
use Rattle.hashbag_words_lib.specs.Columns.{column_at}
use Rattle.hashbag_words_lib.specs.Counts.{HasTokens, Takes}
use Rattle.hashbag_words_lib.specs.Tokens.{token_of}
use Rattle.hashbag_words_lib.proofs.ColumnLemmas.{field_read}
use Rattle.hashbag_words_lib.proofs.CountLemmas.{Takes-append, Takes-nil}
use Rattle.hashbag_words_lib.proofs.columns.add_records.Goals as goal

pub records-init : goal.records-init
records-init g c = record {
  D = [];
  all = refl;
  so_far = Takes-nil HasTokens c.args.bag.now;
  same = (refl, refl);
  fit = λ rest. rest;
}

-- one record more
pub records-preserved : goal.records-preserved
records-preserved g c =
    let inv = c.records.invariant in
    let token = token_of c.args.fold in
    let read = read_last c.read.new.self in
    let field = get_or read (place c.args.column) [] in
    let next = rw c.if-branch.true at c.in_ok-read.ensures.next in
    let fits = c.in_ok-read.ensures.fits c.if-branch.true in
    record {
      D = inv.D ++ field ∷ [];
      all = field_read (place c.args.column) _ inv.D (left c.records.sheet) (left c.read.new.self) read field inv.all next refl;
      so_far =
          subst (λ (l : List (List ℕ)). Takes HasTokens c.args.bag.now c.add_record.new.bag l) (sym (map-append token inv.D (field ∷ [])))
          (Takes-append HasTokens c.args.bag.now c.records.bag c.add_record.new.bag (map token inv.D) (token field ∷ []) inv.so_far c.in_ok-add_record.ensures);
      same = (c.read.ensures.same.0 ∙ inv.same.0, c.read.ensures.same.1 ∙ inv.same.1);
      fit = λ rest. inv.fit (subst (All (λ (x : Record). fits_sheet c.args.sheet.now x ≡ true)) (sym next)
          (All-cons (λ (x : Record). fits_sheet c.args.sheet.now x ≡ true) read (left c.read.new.self) ((λ i. fits_header (sym inv.same.1 i) (sym inv.same.0 i) read) ∙ fits) rest));
    }

-- a record less is left
pub records-smaller : goal.records-smaller
records-smaller g c =
    let next = rw c.if-branch.true at c.in_ok-read.ensures.next in
    let long = ap length next in
    omega (arith, long)

-- no record is left
pub returns-clause-counts : goal.returns-clause-counts
returns-clause-counts g c =
    let inv = c.records.invariant in
    let p = place c.args.column in
    let none = rw c.if-branch.false at c.in_ok-read.ensures.next in
    let done = inv.all ∙ ap (λ (l : List Record). inv.D ++ column_at p l) none ∙ append-nil inv.D in
    subst (λ (l : List (List ℕ)). Takes HasTokens c.args.bag.now c.records.bag (map (token_of c.args.fold) l)) (sym done) inv.so_far

pub returns-clause-fits : goal.returns-clause-fits
returns-clause-fits g c =
    let none = rw c.if-branch.false at c.in_ok-read.ensures.next in
    c.records.invariant.fit (subst (All (λ (x : Record). fits_sheet c.args.sheet.now x ≡ true)) (sym none) (All-nil (λ (x : Record). fits_sheet c.args.sheet.now x ≡ true)))

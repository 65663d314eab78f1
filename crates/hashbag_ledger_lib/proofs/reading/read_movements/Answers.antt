use Rattle.std.proofs.Common.{◌≡◌, ◌∷◌, ◌++◌, [], List, All, String, Global, true, is_ok, length, map, arith, sym, ◌∙◌, ap, subst}
use Rattle.std.proofs.lemmas.List.{map-append}
use Rattle.std.proofs.lemmas.List.Elements.{All-push}
use Rattle.hashbag_csv.specs.Sheets.{left, place, read_last}
use Rattle.hashbag_ledger_lib.specs.declared.movements.Movement.{Movement}
use Rattle.hashbag_ledger_lib.specs.Movements.{columns_by, movement_in, content_of}
use Rattle.hashbag_ledger_lib.proofs.ReadLemmas.{all_read, one_read, under_header}
use Rattle.hashbag_ledger_lib.proofs.reading.read_movements.Goals as goal

-- all records are left
pub records-init : goal.records-init
records-init c =
    let none = sym c.new-movements.ensures.items in
    let f = movement_in c.args.reading.scale (columns_by place c.in_ok-columns.columns) in
    record {
      places = subst (λ (l : List (Movement (String Global))). All (λ m. m.place.file ≡ c.args.file) l) none (λ k d few. absurd (omega (arith, few)));
      read = under_header c.args.reading.scale c.args.names _ (read_last c.in_ok-sheet.sheet) (left c.in_ok-sheet.sheet) (columns_by place c.in_ok-columns.columns) c.in_ok-sheet.ensures c.in_ok-columns.ensures
          ∙ ap (λ (l : List (Movement (String Global))). map content_of l ++ map f (left c.in_ok-sheet.sheet)) none;
    }

-- one more movement
pub records-preserved : goal.records-preserved
records-preserved c =
    let pushed : is_ok c.push.result ≡ true = sym (rw c.in_ok-map_err.was at c.map_err.ensures.variant) in
    let noted = rw pushed at c.push.ensures.items in
    let m = c.in-Some.movement in
    let (r, next, same) = rw c.in-Some.is at c.in_ok-movement.ensures.read in
    let f = movement_in c.args.reading.scale (columns_by place c.in_ok-columns.columns) in
    record {
      places = subst (λ (l : List (Movement (String Global))). All (λ m. m.place.file ≡ c.args.file) l) (sym noted)
          (All-push (λ (m : Movement (String Global)). m.place.file ≡ c.args.file) c.records.movements.items m c.records.invariant.places (rw c.in-Some.is at c.in_ok-movement.ensures.place));
      read = one_read f _ (map content_of c.records.movements.items) (left c.records.sheet) (left c.next_movement.new.sheet) r (content_of m) c.records.invariant.read next same
          ∙ ap (λ l. l ++ map f (left c.next_movement.new.sheet)) (sym (map-append content_of c.records.movements.items (m ∷ [])) ∙ ap (map content_of) (sym noted));
    }

-- a record less is left
pub records-smaller : goal.records-smaller
records-smaller c =
    let (r, next, same) = rw c.in-Some.is at c.in_ok-movement.ensures.read in
    let long = ap length next in
    omega (arith, long)

-- no record is left
pub returns-clause-movements : goal.returns-clause-movements
returns-clause-movements c =
    let none = rw c.in_default.is at c.in_ok-movement.ensures.read in
    sym (all_read (movement_in c.args.reading.scale (columns_by place c.in_ok-columns.columns)) _ (map content_of c.records.movements.items) (left c.records.sheet) c.records.invariant.read none)

-- Movements that are read one after the other.
use Rattle.std.proofs.Common.{◌≡◌, ℕ, Bor, List, [], ◌∷◌, ◌++◌, map, String, Global, refl, sym, ◌∙◌, ap, append_assoc, arith}
use Rattle.std.proofs.lemmas.List.{append-nil, map-append}
use Rattle.std.proofs.lemmas.List.Elements.{All-push}
use Rattle.std.specs.String.{string_eq}
use Rattle.hashbag_core.specs.Bag.{Bag}
use Rattle.hashbag_csv.specs.Lines.{place_of}
use Rattle.hashbag_csv.specs.Readers.{Record}
use Rattle.hashbag_csv.specs.declared.scale.Scale.{Scale}
use Rattle.hashbag_ledger_lib.specs.declared.movements.Change.{Change}
use Rattle.hashbag_ledger_lib.specs.declared.movements.Movement.{Movement}
use Rattle.hashbag_ledger_lib.specs.declared.movements.Refusal.{Refusal}
use Rattle.hashbag_ledger_lib.specs.declared.reading.ChangeColumns.{ChangeColumns}
use Rattle.hashbag_ledger_lib.specs.declared.reading.ChangeColumns.TheVariants.{Signed, ByKind}
use Rattle.hashbag_ledger_lib.specs.declared.reading.Columns.{Columns}
use Rattle.hashbag_ledger_lib.specs.Movements.{content_of, change_by, columns_by, movement_in, movements_under, EntersFile, names_now}
use Rattle.hashbag_ledger_lib.proofs.RunLemmas.{Takes, none_more, one_more}

-- ---- columns

change_in_turn : {B C D : Type 0} (f : C → D) (g : B → C) (columns : ChangeColumns B) → change_by f (change_by g columns) ≡ change_by (λ b. f (g b)) columns
change_in_turn f g (Signed change) = refl
change_in_turn f g (ByKind kind number) = refl

columns_in_turn : {B C D : Type 0} (f : C → D) (g : B → C) (columns : Columns B) → columns_by f (columns_by g columns) ≡ columns_by (λ b. f (g b)) columns
columns_in_turn f g columns = ap (λ ch. record { article = f (g columns.article); change = ch }) (change_in_turn f g columns.change)

-- ---- records in turn

-- all records are left, below the header
pub under_header : (scale : Scale) (names : Columns (Bor (List ℕ))) (all : List Record) (header : Record) (records : List Record) (columns : Columns ℕ)
    → all ≡ header ∷ records → columns ≡ columns_by (λ n. place_of header n.now) names
    → movements_under scale (names_now names) all ≡ map (movement_in scale columns) records
under_header scale names all header records columns is are =
    ap (movements_under scale (names_now names)) is
    ∙ ap (λ (c : Columns ℕ). map (movement_in scale c) records) (columns_in_turn (place_of header) (λ n. n.now) names ∙ sym are)

-- one record more was read
pub one_read : {X : Type 0} (f : Record → X) (all done : List X) (before after : List Record) (r : Record) (x : X)
    → all ≡ done ++ map f before → before ≡ r ∷ after → x ≡ f r → all ≡ (done ++ x ∷ []) ++ map f after
one_read f all done before after r x is next same =
    is ∙ ap (λ (l : List Record). done ++ map f l) next ∙ ap (λ y. done ++ y ∷ map f after) (sym same) ∙ sym (append_assoc done (x ∷ []) (map f after))

-- none is left
pub all_read : {X : Type 0} (f : Record → X) (all done : List X) (records : List Record) → all ≡ done ++ map f records → records ≡ [] → all ≡ done
all_read f all done records is none = is ∙ ap (λ (l : List Record). done ++ map f l) none ∙ append-nil done

-- ---- movements that are entered as they are read

module _ {S : Type 0} (file : ℕ) where
  pub enters_none : (R : List (Refusal (String Global))) (stock : Bag (String Global) S) → EntersFile file [] R stock R stock
  enters_none R stock = record { read = []; all = refl; places = λ k d few. absurd (omega (arith, few)); entered = none_more string_eq R stock }

  pub enters_one : (moved : List (List ℕ × Change)) {R R' : List (Refusal (String Global))} {stock stock' : Bag (String Global) S} (m : Movement (String Global)) (R'' : List (Refusal (String Global))) (stock'' : Bag (String Global) S)
      → EntersFile file moved R stock R' stock' → m.place.file ≡ file → Takes string_eq m R' stock' R'' stock'' → EntersFile file (moved ++ content_of m ∷ []) R stock R'' stock''
  enters_one moved {R} {R'} {stock} {stock'} m R'' stock'' h at takes = record {
    read = h.read ++ m ∷ [];
    all = map-append content_of h.read (m ∷ []) ∙ ap (λ (l : List (List ℕ × Change)). l ++ content_of m ∷ []) h.all;
    places = All-push (λ (m : Movement (String Global)). m.place.file ≡ file) h.read m h.places at;
    entered = one_more string_eq h.read m R R' R'' stock stock' stock'' h.entered takes;
  }

-- Dates and notes that are read one after the other.
use Rattle.std.proofs.Common.{◌≡◌, ℕ, Bor, List, ◌∷◌, map, Option, Some, None, refl, sym, ◌∙◌, ap}
use Rattle.std.specs.Option.{option_map}
use Rattle.hashbag_csv.specs.Lines.{place_of}
use Rattle.hashbag_csv.specs.Readers.{Record}
use Rattle.hashbag_ledger_lib.specs.Extras.{columns_of, extra_in, extras_under}
use Rattle.hashbag_ledger_lib.specs.declared.date_forms.DateForm.{DateForm}
use Rattle.hashbag_ledger_lib.specs.declared.extras.ExtraColumns.{ExtraColumns}

option_in_turn : {B C D : Type 0} (f : C → D) (g : B → C) (column : Option B) → option_map f (option_map g column) ≡ option_map (λ b. f (g b)) column
option_in_turn f g (Some b) = refl
option_in_turn f g None = refl

-- the columns of dates and of notes
abbrev pub columns_named : {C : Type 0} → Option C → Option C → ExtraColumns C
columns_named date note = record { date = date; note = note }

-- all records are left, below the header
pub under_header : (form : DateForm) (names : ExtraColumns (Bor (List ℕ))) (all : List Record) (header : Record) (records : List Record) (columns : ExtraColumns ℕ)
    → all ≡ header ∷ records → columns.date ≡ option_map (λ n. place_of header n.now) names.date → columns.note ≡ option_map (λ n. place_of header n.now) names.note
    → extras_under form (columns_of (λ n. n.now) names) all ≡ map (extra_in form columns) records
under_header form names all header records columns is dates notes =
    let at_dates = option_in_turn (place_of header) (λ (n : Bor (List ℕ)). n.now) names.date ∙ sym dates in
    let at_notes = option_in_turn (place_of header) (λ (n : Bor (List ℕ)). n.now) names.note ∙ sym notes in
    ap (extras_under form (columns_of (λ n. n.now) names)) is
    ∙ (λ i. map (extra_in form (record { date = at_dates i; note = at_notes i })) records)

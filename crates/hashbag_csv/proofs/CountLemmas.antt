-- The lines of a list, which are read one after the other.
use Rattle.std.proofs.Common.{◌≡◌, ℕ, List, [], ◌∷◌, ◌++◌, map, Option, Some, String, Global, sym, ◌∙◌, ap, append_assoc}
use Rattle.std.proofs.lemmas.List.{append-nil, map-append}
use Rattle.hashbag_csv.specs.Lines.{line_of, lines_under, place_of}
use Rattle.hashbag_csv.specs.Readers.{Record}
use Rattle.hashbag_csv.specs.declared.line_form.LineForm.{LineForm}
use Rattle.hashbag_csv.specs.declared.scale.Scale.{Scale}
use Rattle.hashbag_csv.specs.Counts.{plain_form, count_line}

-- all records are left, below the header
pub under_header : (scale : Scale) (article number : List ℕ) (all : List Record) (header : Record) (records : List Record) (form : LineForm) (keys : List ℕ) (place : Option ℕ)
    → all ≡ header ∷ records → form ≡ plain_form → keys ≡ place_of header article ∷ [] → place ≡ Some (place_of header number)
    → lines_under scale plain_form (article ∷ []) (Some number) all ≡ map (line_of scale form keys place) records
under_header scale article number all header records form keys place is form_is keys_are place_is =
    ap (lines_under scale plain_form (article ∷ []) (Some number)) is
    ∙ (λ i. map (line_of scale (sym form_is i) (sym keys_are i) (sym place_is i)) records)

-- one more was read
pub one_read : (f : Record → Record × ℕ) (all : List (Record × ℕ)) (xs ys : List (String Global × ℕ)) (x : String Global × ℕ) (before after : List Record) (r : Record)
    → all ≡ map count_line xs ++ map f before → before ≡ r ∷ after → count_line x ≡ f r → ys ≡ xs ++ x ∷ [] → all ≡ map count_line ys ++ map f after
one_read f all xs ys x before after r so_far next same is =
    so_far ∙ ap (λ (l : List Record). map count_line xs ++ map f l) next ∙ ap (λ (y : Record × ℕ). map count_line xs ++ y ∷ map f after) (sym same)
    ∙ sym (append_assoc (map count_line xs) (count_line x ∷ []) (map f after))
    ∙ ap (λ (l : List (Record × ℕ)). l ++ map f after) (sym (map-append count_line xs (x ∷ [])) ∙ ap (map count_line) (sym is))

-- none is left
pub all_read : (f : Record → Record × ℕ) (all done : List (Record × ℕ)) (records : List Record) → all ≡ done ++ map f records → records ≡ [] → done ≡ all
all_read f all done records is none = sym (is ∙ ap (λ (l : List Record). done ++ map f l) none ∙ append-nil done)

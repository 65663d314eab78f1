-- Lines that are tallied one after the other.
use Rattle.std.proofs.Common.{◌≡◌, ℕ, Bool, Bor, List, [], ◌∷◌, ◌++◌, map, All, Option, sym, ◌∙◌, ap, subst, append_assoc}
use Rattle.std.specs.Prelude.{option_copied, option_map}
use Rattle.std.proofs.lemmas.List.{append-nil, map-append}
use Rattle.hashbag_csv.specs.BadLines.{HasNumber}
use Rattle.hashbag_csv.specs.LineColumns.{line_bytes}
use Rattle.hashbag_csv.specs.Lines.{line_of, lines_under, place_of}
use Rattle.hashbag_csv.specs.Readers.{Record}
use Rattle.hashbag_csv.specs.declared.line_form.LineForm.{LineForm}
use Rattle.hashbag_csv.specs.declared.scale.Scale.{Scale}
use Rattle.hashbag_csv.proofs.BadLineLemmas.{map_copied}
use Rattle.hashbag_core.specs.Bag.{Bag}
use Rattle.hashbag_core.proofs.MemberLemmas.{map-map}
use Rattle.hashbag_match_lib.specs.Fields.{IsTallyOfLines}
use Rattle.hashbag_match_lib.specs.Readable.{HaveNumbers}
use Rattle.hashbag_match_lib.specs.Tallies.{IsTallyOf}

module _ {A : Type 0} (eq : A → A → Bool) (fields : A → Record) where
  -- the lines before are those so far
  pub no_lines : {S : Type 0} (K : List (Record × ℕ)) (bag none : Bag A S) → IsTallyOfLines eq fields K bag none → IsTallyOfLines eq fields (K ++ []) bag none
  no_lines K bag none (L, are, is) = (L, are ∙ sym (append-nil K), is)

  -- one line more
  pub more_lines : {S : Type 0} (K D : List (Record × ℕ)) (article : A) (number : ℕ) (bag none bag' none' : Bag A S)
      → ((L : List (A × ℕ)) → IsTallyOf eq L bag none → IsTallyOf eq (L ++ (article, number) ∷ []) bag' none') → IsTallyOfLines eq fields (K ++ D) bag none → IsTallyOfLines eq fields (K ++ (D ++ line_bytes fields (article, number) ∷ [])) bag' none'
  more_lines K D article number bag none bag' none' more (L, are, is) = (
    L ++ (article, number) ∷ [],
    map-append (line_bytes fields) L ((article, number) ∷ []) ∙ ap (λ (l : List (Record × ℕ)). l ++ line_bytes fields (article, number) ∷ []) are ∙ append_assoc K D (line_bytes fields (article, number) ∷ []),
    more L is,
  )

-- the records that are left, after one was read
pub record_read : (f : Record → Record × ℕ) (all : List (Record × ℕ)) (D : List (Record × ℕ)) (before after : List Record) (r : Record) (line : Record × ℕ)
    → all ≡ D ++ map f before → before ≡ r ∷ after → line ≡ f r → all ≡ (D ++ line ∷ []) ++ map f after
record_read f all D before after r line is next same =
    is ∙ ap (λ (l : List Record). D ++ map f l) next ∙ ap (λ (x : Record × ℕ). D ++ x ∷ map f after) (sym same) ∙ sym (append_assoc D (line ∷ []) (map f after))

-- the records below the header have numbers, by the place of the column
pub all_numbers : (scale : Scale) (form own : LineForm) (number : Option (Bor (List ℕ))) (place : Option ℕ) (all : List Record) (header : Record) (records : List Record)
    → all ≡ header ∷ records → own ≡ form → place ≡ option_map (λ n. place_of header n.now) number → All (HasNumber scale own.number place) records
    → HaveNumbers scale form (option_copied number) all
all_numbers scale form own number place all header records is form_is number_is have =
    subst (HaveNumbers scale form (option_copied number)) (sym is)
    (subst (λ (p : Option ℕ). All (HasNumber scale form.number p) records) (number_is ∙ sym (map_copied (place_of header) number))
    (subst (λ (f : LineForm). All (HasNumber scale f.number place) records) form_is have))

-- the lines below the header, by the places of the columns
pub all_lines : (scale : Scale) (form : LineForm) (keys : List (Bor (List ℕ))) (number : Option (Bor (List ℕ))) (all : List Record) (header : Record) (records : List Record)
    (own : LineForm) (places : List ℕ) (place : Option ℕ)
    → all ≡ header ∷ records → own ≡ form → places ≡ map (λ k. place_of header k.now) keys → place ≡ option_map (λ n. place_of header n.now) number
    → map (line_of scale own places place) records ≡ lines_under scale form (map (λ k. k.now) keys) (option_copied number) all
all_lines scale form keys number all header records own places place is form_is keys_are number_is =
    (λ i. map (line_of scale (form_is i) ((keys_are ∙ sym (map-map (λ k. k.now) (place_of header) keys)) i) ((number_is ∙ sym (map_copied (place_of header) number)) i)) records)
    ∙ ap (lines_under scale form (map (λ k. k.now) keys) (option_copied number)) (sym is)

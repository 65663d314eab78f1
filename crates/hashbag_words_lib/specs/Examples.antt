-- What the definitions say of small lists.
use Rattle.std.specs.Prelude.{◌≡◌, ◌<◌, ℕ, ◌==◌, Bool, true, false, not, ◌&&◌, nat_le, List, [], ◌∷◌, ◌++◌, length, map, None, refl, String, string_bytes, decimal}
use Rattle.std.specs.Fmt.{digits}
use Rattle.std.specs.Global.{Global}
use Rattle.std.specs.Str.{bytes_eq, chars}
use Rattle.std.proofs.Common.{ap, arith, sym, ◌∙◌}
use Rattle.std.proofs.lemmas.Bool.{false≢true}
use Rattle.std.proofs.lemmas.List.Elements.{All-head, All-tail}
use Rattle.hashbag_core.specs.Bag.{Bag}
use Rattle.hashbag_core.specs.Occurrences.{count}
use Rattle.hashbag_words_lib.specs.Bars.{marks_of, right_in}
use Rattle.hashbag_words_lib.specs.Choice.{is_excepted, shows}
use Rattle.hashbag_words_lib.specs.Columns.{column_under}
use Rattle.hashbag_words_lib.specs.Fields.{fields_of}
use Rattle.hashbag_words_lib.specs.Rows.{ReadsByte}
use Rattle.hashbag_words_lib.specs.Shards.{is_in_shard}
use Rattle.hashbag_words_lib.specs.Shares.{hundredths_of, two_decimals}
use Rattle.hashbag_words_lib.specs.Shown.{HasShown}
use Rattle.hashbag_words_lib.specs.declared.choice.Choice.{Choice}
use Rattle.hashbag_words_lib.specs.declared.rule.Separator.TheVariants.{Blanks, Char}

-- rows of which one has the count 0 show no list
pub no_row_of_none : (choice : Choice) (texts : List (List ℕ)) → HasShown choice texts ((97 ∷ [], 1) ∷ (122 ∷ [], 0) ∷ []) → ⊥
no_row_of_none choice texts shown =
    let zero : 0 < 0 = All-head (λ (r : List ℕ × ℕ). 0 < r.1) (122 ∷ [], 0) [] (All-tail (λ (r : List ℕ × ℕ). 0 < r.1) (97 ∷ [], 1) ((122 ∷ [], 0) ∷ []) shown.positive) in
    absurd (omega (arith, zero))

-- between blanks no field is empty; between commas the first field of this line is empty
fields_between_blanks : fields_of Blanks (32 ∷ 97 ∷ 9 ∷ 32 ∷ 98 ∷ 99 ∷ 32 ∷ []) ≡ (97 ∷ []) ∷ (98 ∷ 99 ∷ []) ∷ []
unfolding chars lib.Utf8.encode
fields_between_blanks = refl

fields_between_commas : fields_of (Char 44) (44 ∷ 97 ∷ 32 ∷ []) ≡ [] ∷ (97 ∷ 32 ∷ []) ∷ []
unfolding chars lib.Utf8.encode
fields_between_commas = refl

-- the second column, `b`, below the header `a`, `b`: the name in the header isn't counted, and an empty field is counted
fields_of_a_column : column_under (98 ∷ []) (((97 ∷ []) ∷ (98 ∷ []) ∷ []) ∷ ((120 ∷ []) ∷ (98 ∷ []) ∷ []) ∷ ((98 ∷ []) ∷ [] ∷ []) ∷ []) ≡ (98 ∷ []) ∷ [] ∷ []
fields_of_a_column = refl

none_of : (a b : Bool) → (a && b && false) ≡ false
none_of true true = refl
none_of true false = refl
none_of false b = refl

-- an excepted text is never shown, and any other text is shown as if no text were excepted
pub excepted_is_not_shown : (choice : Choice) (row : List ℕ × ℕ) → is_excepted choice.except row.0 ≡ true → shows choice row ≡ false
excepted_is_not_shown choice row is =
    let a = nat_le choice.least row.1 in
    let b = is_in_shard choice.shard row.0 in
    ap (λ (e : Bool). a && b && not e) is ∙ none_of a b

pub others_are_shown : (choice : Choice) (row : List ℕ × ℕ) → is_excepted choice.except row.0 ≡ false → shows choice row ≡ shows (record choice { except = None }) row
others_are_shown choice row is =
    let a = nat_le choice.least row.1 in
    let b = is_in_shard choice.shard row.0 in
    ap (λ (e : Bool). a && b && not e) is

-- one of three, two of three, one of eight; a half of a hundredth is rounded up, and less than that isn't
shares_are_rounded : (hundredths_of 3 1 ≡ 3333) × (hundredths_of 3 2 ≡ 6667) × (hundredths_of 8 1 ≡ 1250)
shares_are_rounded = (refl, refl, refl)

shares_are_rounded_half_up : (hundredths_of 20000 1 ≡ 1) × (hundredths_of 20001 1 ≡ 0) × (hundredths_of 7 7 ≡ 10000)
shares_are_rounded_half_up = (refl, refl, refl)

two_decimals_are_written : two_decimals 3305 ≡ decimal 33 ++ 46 ∷ 48 ∷ 53 ∷ []
two_decimals_are_written = refl

-- a backslash and an x are no escaped byte
bad_escape : ReadsByte 120 [] true [] None
bad_escape rest = refl

-- one of three, two of three, all and none
bars_are_shares : (marks_of 40 3 1 ≡ 13) × (marks_of 40 3 2 ≡ 27) × (marks_of 40 3 3 ≡ 40) × (marks_of 40 3 0 ≡ 0)
bars_are_shares = (refl, refl, refl, refl)

-- one of a thousand gets one mark, and one and a half marks are rounded up
bars_are_rounded_half_up : (marks_of 40 1000 1 ≡ 1) × (marks_of 40 80 3 ≡ 2) × (marks_of 40 81 3 ≡ 1)
bars_are_rounded_half_up = (refl, refl, refl)

counts_are_at_the_right : (right_in 3 7 ≡ 32 ∷ 32 ∷ 55 ∷ []) × (right_in 3 120 ≡ 49 ∷ 50 ∷ 48 ∷ [])
unfolding digits
counts_are_at_the_right = (refl, refl)

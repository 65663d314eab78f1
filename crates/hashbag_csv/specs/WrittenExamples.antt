-- What is written, computed.
use Rattle.std.specs.Prelude.{◌≡◌, ◌^◌, ◌-◌, [], ◌∷◌, codes, refl}
use Rattle.std.specs.Fmt.{digits}
use Rattle.std.proofs.Common.{arith}
use Rattle.csv.specs.Writing.{escaped, fields_text, is_blank}
use Rattle.json.specs.Print.{escape_byte, print_from}
use Rattle.hashbag_csv.specs.Written.{json_text, records_text}
use Rattle.hashbag_csv.specs.declared.cells.Cell.TheVariants.{Text, Number, Below}
use Rattle.hashbag_csv.specs.declared.delimiter.Delimiter.TheVariants.{Comma, Semicolon}
use Rattle.hashbag_csv.specs.declared.scale.Mark.TheVariants.{Point}
use Rattle.hashbag_csv.specs.declared.scale.Scale.{Scale}

-- a field with the delimiter has quotes
records : records_text Comma ((codes "sku" ∷ codes "ordered" ∷ []) ∷ (codes "screw, 4 mm" ∷ codes "60" ∷ []) ∷ []) ≡ codes "sku,ordered\n\"screw, 4 mm\",60\n"
unfolding fields_text is_blank escaped
records = refl

-- a field with another delimiter has no quotes, and a quote in a field is written as two
other_records : records_text Semicolon ((codes "1,5" ∷ codes "2\"" ∷ []) ∷ []) ≡ codes "1,5;\"2\"\"\"\n"
unfolding fields_text is_blank escaped
other_records = refl

abbrev whole : Scale
whole = record { decimals = 0; mark = Point; most = 2 ^ 64 - 1; few = omega arith }

-- a number of JSON, and below 0; a name without a cell has no member
json : json_text (codes "sku" ∷ codes "left" ∷ codes "change" ∷ codes "note" ∷ []) ((Text (codes "A") ∷ Number 2 whole ∷ Below 5 whole ∷ []) ∷ []) ≡ codes "[{\"sku\":\"A\",\"left\":2,\"change\":-5}]\n"
unfolding print_from escape_byte digits
json = refl

-- with decimals a number is a string
decimals : json_text (codes "left" ∷ []) ((Number 250 (record { decimals = 2; mark = Point; most = 2 ^ 64 - 1; few = omega arith }) ∷ []) ∷ []) ≡ codes "[{\"left\":\"2.50\"}]\n"
unfolding print_from escape_byte digits
decimals = refl

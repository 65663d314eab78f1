-- Records and objects that are written one after another.
use Rattle.std.proofs.Common.{◌≡◌, ◌≢◌, ◌⊎◌, ◌<◌, ◌^◌, ◌==◌, ◌+◌, ℕ, zero, suc, Bor, String, inl, inr, List, [], ◌∷◌, ◌++◌, false, decimal, flat_map, get_or, length, map, take, Option, Some, None, refl, sym, ◌∙◌, ap, subst, append_assoc, arith}
use Rattle.std.specs.Global.{Global, Vec}
use Rattle.std.specs.String.{string_bytes}
use Rattle.std.specs.Io.KnownBytes.{Appends}
use Rattle.std.proofs.lemmas.Bool.{ne_eqb}
use Rattle.std.proofs.lemmas.Fmt.{decimal_digit, first_decimal}
use Rattle.std.proofs.lemmas.List.{append-nil, map-append, take_more}
use Rattle.std.proofs.lemmas.List.Concat.{flat_map-cons}
use Rattle.std.proofs.lemmas.Grind.{flat_map-append}
use Rattle.csv.specs.Writing.{fields_written, has_written, row_text, text_written, writer_pending, writer_setup, writer_under}
use Rattle.csv.specs.declared.writer.QuoteStyle.TheVariants as style
use Rattle.csv.specs.declared.writer.Writer.{Writer}
use Rattle.csv.specs.declared.writer.WriterBuilder.{WriterBuilder}
use Rattle.json.specs.Print.{IsNumber}
use Rattle.json.specs.Word.{after_number, head}
use Rattle.json.proofs.Printed.Decimals.{IsNumber-decimal}
use Rattle.hashbag_csv.specs.Readers.{Record, byte_of}
use Rattle.hashbag_csv.specs.declared.delimiter.Delimiter.{Delimiter}
use Rattle.hashbag_csv.specs.declared.delimiter.Delimiter.TheVariants.{Comma, Semicolon, Tab}
use Rattle.hashbag_csv.specs.Cells.{lent_cell}
use Rattle.hashbag_csv.specs.Written.{HasWritten, members, records_text, token_of, writer_of}
use Rattle.hashbag_csv.specs.declared.cells.Cell.{Cell}
use Rattle.hashbag_csv.specs.declared.scale.Scale.{Scale}

-- the parts of a list and one more
pub flat_more : {X A : Type 0} (f : X → List A) (xs : List X) (x : X) → flat_map f (xs ++ x ∷ []) ≡ flat_map f xs ++ f x
flat_more f xs x = flat_map-append f xs (x ∷ []) ∙ ap (λ l. flat_map f xs ++ l) (flat_map-cons f x [] ∙ append-nil (f x))

-- the rows of values, and of one value more
pub next_rows : {T R : Type 0} (line : T → R) (values : List T) (k : ℕ) (value : T) (row : R) → k < length values → value ≡ get_or values k value → row ≡ line value
    → map line (take (k + 1) values) ≡ map line (take k values) ++ row ∷ []
next_rows {R = R} line values k value row below is made =
    ap (map line) (take_more values k value below) ∙ map-append line (take k values) (get_or values k value ∷ []) ∙ ap (λ (r : R). map line (take k values) ++ r ∷ []) (ap line (sym is) ∙ sym made)

-- parts before a part that was appended
pub part_before : {X : Type 0} (n m part rest : List X) → n ≡ m ++ part → n ++ rest ≡ m ++ (part ++ rest)
part_before n m part rest is = ap (λ l. l ++ rest) is ∙ append_assoc m part rest

some_appended : (new : Option (List ℕ)) (xs bytes : List ℕ) → Appends (Some xs) new bytes → new ≡ Some (xs ++ bytes)
some_appended None xs bytes h = absurd h
some_appended (Some ys) xs bytes h = ap Some h

-- known bytes grow
pub appended : (old new : Option (List ℕ)) (xs bytes : List ℕ) → old ≡ Some xs → Appends old new bytes → new ≡ Some (xs ++ bytes)
appended old new xs bytes is h = some_appended new xs bytes (subst (λ o. Appends o new bytes) is h)

abbrev contents : Vec ℕ → Option (List ℕ)
contents v = Some v.items

-- one record more
pub record_more : (d : Delimiter) (R : List Record) (r : Record) (old new : Writer (Vec ℕ)) → HasWritten d R old
    → (fields_written old ≡ 0 → has_written old ≡ false → (writer_setup old).style ≢ style.NonNumeric → Appends (text_written contents old) (text_written contents new) (row_text (writer_setup old) r))
    → fields_written new ≡ 0 → has_written new ≡ false → writer_setup new ≡ writer_setup old → HasWritten d (R ++ r ∷ []) new
record_more d R r old new before bytes none clean setup =
    let plain : (writer_setup old).style ≢ style.NonNumeric = rw before.setup (λ e. cc e) in
    let grown = rw before.setup at (bytes before.fields before.wrote plain) in
    record {
      setup = setup ∙ before.setup;
      fields = none;
      wrote = clean;
      text = appended _ _ (records_text d R) (row_text (writer_of d) r) before.text grown ∙ ap Some (sym (flat_more (row_text (writer_of d)) R r));
    }

-- the byte between fields
pub byte_is : (d : Delimiter) (b : ℕ) → (d ≡ Comma → b ≡ 44) → (d ≡ Semicolon → b ≡ 59) → (d ≡ Tab → b ≡ 9) → b ≡ byte_of d
byte_is Comma b comma semicolon tab = comma refl
byte_is Semicolon b comma semicolon tab = semicolon refl
byte_is Tab b comma semicolon tab = tab refl

-- a writer on an empty vector
pub none_written : (d : Delimiter) (w : Writer (Vec ℕ)) (b : WriterBuilder) (v : Vec ℕ) → writer_setup w ≡ b → b ≡ writer_of d → fields_written w ≡ 0 → has_written w ≡ false
    → writer_under w ≡ v → v.items ≡ [] → writer_pending w ≡ [] → HasWritten d [] w
none_written d w b v setup is none clean under empty pending = record {
  setup = setup ∙ is;
  fields = none;
  wrote = clean;
  text = λ i. Some ((ap (λ (u : Vec ℕ). u.items) under ∙ empty) i ++ pending i);
}

none_left : (names : Record) → members names [] ≡ []
none_left [] = refl
none_left (name ∷ names) = refl

-- no member is left where names or cells end
pub members_end : (names : List (Bor (List ℕ))) (cells : List (Cell (Bor (List ℕ)) Scale)) → (names ≡ []) ⊎ (cells ≡ []) → members (map (λ n. n.now) names) (map token_of (map lent_cell cells)) ≡ []
members_end names cells ends = elim ends [
  | inl is ↦ ap (λ (l : List (Bor (List ℕ))). members (map (λ n. n.now) l) (map token_of (map lent_cell cells))) is
  | inr is ↦ ap (λ (l : List (Cell (Bor (List ℕ)) Scale)). members (map (λ n. n.now) names) (map token_of (map lent_cell l))) is ∙ none_left (map (λ n. n.now) names)
]

-- ---- numbers of JSON

-- the digits of a number above 0 don't begin with `-`
digits_alone : (digits : List ℕ) → 48 < get_or digits 0 0 → (head digits == 45) ≡ false
digits_alone [] first = absurd (omega arith)
digits_alone (d ∷ digits) first = ne_eqb d 45 (λ e. omega arith)

-- a `-` before the digits of a number
pub negative_is_number : (n : ℕ) → n < 2 ^ 64 → IsNumber (45 ∷ decimal n)
unfolding after_number
negative_is_number zero fits = let e = decimal_digit 0 (omega arith) in subst (λ (l : List ℕ). IsNumber (45 ∷ l)) (sym e) refl
negative_is_number (suc n) fits =
    let alone = digits_alone (decimal (suc n)) (first_decimal (suc n) (omega arith) fits) in
    rw alone at (IsNumber-decimal (suc n) fits)

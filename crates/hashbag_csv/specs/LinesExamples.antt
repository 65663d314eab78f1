-- The definition of the lines of a text computes.
use Rattle.std.specs.Prelude.{◌≡◌, ◌^◌, ◌-◌, true, false, [], ◌∷◌, Some, None, codes, refl}
use Rattle.std.proofs.Common.{arith}
use Rattle.std.specs.Fmt.{digits}
use Rattle.csv.proofs.OnLiterals.{csv_on_literals}
use Rattle.hashbag_csv.specs.Lines.{lines_in}
use Rattle.hashbag_csv.specs.NumberForms.{grouped_number_in}
use Rattle.hashbag_csv.specs.declared.counts.Reading.{Reading}
use Rattle.hashbag_csv.specs.declared.delimiter.Delimiter.TheVariants.{Comma, Semicolon}
use Rattle.hashbag_csv.specs.declared.groups.GroupMark.TheVariants.{Point as group_point}
use Rattle.hashbag_csv.specs.declared.line_form.LineForm.{LineForm}
use Rattle.hashbag_csv.specs.declared.scale.Mark.TheVariants.{Point, Comma as comma_mark}

abbrev whole : Reading
whole = record { delimiter = Comma; scale = record { decimals = 0; mark = Point; most = 2 ^ 64 - 1; few = omega arith } }

abbrev hundredths : Reading
hundredths = record { delimiter = Semicolon; scale = record { decimals = 2; mark = comma_mark; most = 2 ^ 64 - 1; few = omega arith } }

abbrev as_is : LineForm
as_is = record { key = record { trim = false; fold = false }; number = record { blank_is_zero = false; group = None }; allows_short = false; no_header = false }

abbrev trimming : LineForm
trimming = record as_is { key = record { trim = true; fold = false } }

abbrev with_blanks : LineForm
with_blanks = record as_is { number = record { blank_is_zero = true; group = None } }

abbrev with_points : LineForm
with_points = record as_is { number = record { blank_is_zero = false; group = Some group_point } }

-- each line, in turn; columns in any order
each : lines_in whole as_is (codes "article" ∷ []) (Some (codes "number")) (codes "number,note,article\n5,x,nut\n7,y,nut\n") ≡ (codes "nut" ∷ [], 5) ∷ (codes "nut" ∷ [], 7) ∷ []
unfolding csv_on_literals
each = refl

-- a line feed in quotes ends no line, and two quotes are one; an empty line is none
quoted : lines_in whole as_is (codes "a" ∷ codes "b" ∷ []) (Some (codes "n")) (codes "a,b,n\r\n\"x\ny\",\"\"\"\",1\r\n\r\n") ≡ (codes "x\ny" ∷ codes "\"" ∷ [], 1) ∷ []
unfolding csv_on_literals
quoted = refl

-- decimals, and another delimiter; the last line needs no end
decimals : lines_in hundredths as_is (codes "a" ∷ []) (Some (codes "n")) (codes "a;n\nx;1,5") ≡ (codes "x" ∷ [], 150) ∷ []
unfolding csv_on_literals
decimals = refl

-- a header alone, and nothing
header : lines_in whole as_is (codes "a" ∷ []) (Some (codes "n")) (codes "a,n\n") ≡ []
unfolding csv_on_literals
header = refl

nothing : lines_in whole as_is (codes "a" ∷ []) (Some (codes "n")) (codes "") ≡ []
unfolding csv_on_literals
nothing = refl

-- without a header the first record is a line, and columns are named by their places, from 1
abbrev without_header : LineForm
without_header = record as_is { no_header = true }

first_line : lines_in whole without_header (codes "2" ∷ []) (Some (codes "1")) (codes "5,nut\n7,bolt\n") ≡ (codes "nut" ∷ [], 5) ∷ (codes "bolt" ∷ [], 7) ∷ []
unfolding csv_on_literals digits
first_line = refl

no_line : lines_in whole without_header (codes "2" ∷ []) (Some (codes "1")) (codes "") ≡ []
unfolding csv_on_literals digits
no_line = refl

-- without a column of numbers each line has the number 1, which is 100 hundredths
named : lines_in whole as_is (codes "a" ∷ []) None (codes "a,n\nx,7\ny,no number\nx,\n") ≡ (codes "x" ∷ [], 1) ∷ (codes "y" ∷ [], 1) ∷ (codes "x" ∷ [], 1) ∷ []
unfolding csv_on_literals
named = refl

one : lines_in hundredths as_is (codes "a" ∷ []) None (codes "a\nx\n") ≡ (codes "x" ∷ [], 100) ∷ []
unfolding csv_on_literals
one = refl

-- only fields of key columns are trimmed, not the names of columns
trims : lines_in whole trimming (codes "a" ∷ codes " b" ∷ []) (Some (codes "n")) (codes "a, b,n\nx\t, y,1\n\"x \",y  ,2\n") ≡ (codes "x" ∷ codes "y" ∷ [], 1) ∷ (codes "x" ∷ codes "y" ∷ [], 2) ∷ []
unfolding csv_on_literals
trims = refl

-- an empty field of numbers is 0
blanks : lines_in hundredths with_blanks (codes "a" ∷ []) (Some (codes "n")) (codes "a;n\nx;\ny;1,5\n") ≡ (codes "x" ∷ [], 0) ∷ (codes "y" ∷ [], 150) ∷ []
unfolding csv_on_literals
blanks = refl

-- points between groups of three digits
groups : lines_in hundredths with_points (codes "a" ∷ []) (Some (codes "n")) (codes "a;n\nx;1.234.567,5\ny;1000\n") ≡ (codes "x" ∷ [], 123456750) ∷ (codes "y" ∷ [], 100000) ∷ []
unfolding csv_on_literals
groups = refl

-- a number without the marks between its groups, in hundredths
in_groups : grouped_number_in (hundredths.scale) (Some group_point) (codes "1.000,5") ≡ 100050
in_groups = refl

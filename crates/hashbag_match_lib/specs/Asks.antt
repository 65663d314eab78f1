-- What an `Ask` names, and the lines of both texts.
use Rattle.std.specs.Prelude.{ℕ, ◌==◌, if◌then◌else◌, List, [], map, vec_len, Option, option_copied}
use Rattle.std.specs.Borrow.{Bor}
use Rattle.hashbag_csv.specs.FirstLines.{Carried, carried_in}
use Rattle.hashbag_csv.specs.Lines.{lines_in}
use Rattle.hashbag_csv.specs.Readers.{Record}
use Rattle.hashbag_csv.specs.declared.counts.Reading.{Reading}
use Rattle.hashbag_csv.specs.declared.line_form.LineForm.{LineForm}
use Rattle.hashbag_match_lib.specs.declared.ask.Ask.{Ask}
use Rattle.hashbag_match_lib.specs.declared.ask.Columns.{Columns}

-- articles, as the bytes of their fields, with their numbers
abbrev pub Lines : Type 0
Lines = List (Record × ℕ)

-- the names of the key columns
abbrev pub names_of : Columns → List (List ℕ)
names_of c = map (λ k. k.now) c.keys.items

-- the lines of a text with these columns, read as `ask` says
abbrev pub lines_asked : Ask → Columns → List ℕ → Lines
lines_asked ask c text = lines_in c.reading ask.line_form (names_of c) (option_copied c.number) text

-- the lines of a text of what was ordered
abbrev pub ordered_in : Ask → List ℕ → Lines
ordered_in ask text = lines_asked ask ask.ordered text

-- the lines of a text of what was delivered
abbrev pub delivered_in : Ask → List ℕ → Lines
delivered_in ask text = lines_asked ask ask.delivered text

-- the lines of a text, by the names of its key columns and of its column of numbers, if there is one
abbrev pub lines_named : Reading → LineForm → List (Bor (List ℕ)) → Option (Bor (List ℕ)) → List ℕ → Lines
lines_named reading form keys number text = lines_in reading form (map (λ k. k.now) keys) (option_copied number) text

-- articles with the fields that are carried along, of the lines of a text with these columns
abbrev pub carried_of : Ask → Columns → List ℕ → List Carried
carried_of ask c text = carried_in c.reading.delimiter ask.line_form (names_of c) (map (λ k. k.now) ask.carried.items) text

-- the same if `ask` names carried columns, else nothing
abbrev pub carried_along : Ask → Columns → List ℕ → List Carried
carried_along ask c text = if vec_len ask.carried == 0 then [] else carried_of ask c text

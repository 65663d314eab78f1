-- What the names of delimiters, of marks and of forms mean.
use Rattle.std.specs.Prelude.{ℕ, List, [], ◌∷◌, codes, bytes_eq}
use Rattle.std.specs.Option.{unwrap_or}
use Rattle.hashbag_text.specs.Names.{named_in}
use Rattle.hashbag_csv.specs.declared.delimiter.Delimiter.{Delimiter}
use Rattle.hashbag_csv.specs.declared.delimiter.Delimiter.TheVariants.{Comma, Semicolon, Tab}
use Rattle.hashbag_csv.specs.declared.forms.Form.{Form}
use Rattle.hashbag_csv.specs.declared.forms.Form.TheVariants.{Table, Csv, Json}
use Rattle.hashbag_csv.specs.declared.groups.GroupMark.{GroupMark}
use Rattle.hashbag_csv.specs.declared.groups.GroupMark.TheVariants.{Point, Comma as GroupComma, Apostrophe, Space, NoBreak}
use Rattle.hashbag_csv.specs.declared.scale.Mark.{Mark}
use Rattle.hashbag_csv.specs.declared.scale.Mark.TheVariants.{Point as DecimalPoint, Comma as DecimalComma}

-- the names of delimiters; any other name means a comma
abbrev pub delimiter_named : List ℕ → Delimiter
delimiter_named name = unwrap_or (named_in ((codes ";", Semicolon) ∷ (codes "tab", Tab) ∷ (codes "\\t", Tab) ∷ []) (bytes_eq name)) Comma

-- the names of marks before decimals; any other name means a point
abbrev pub mark_named : List ℕ → Mark
mark_named name = unwrap_or (named_in ((codes ",", DecimalComma) ∷ []) (bytes_eq name)) DecimalPoint

-- the names of forms; any other name means CSV
abbrev pub form_named : List ℕ → Form
form_named name = unwrap_or (named_in ((codes "table", Table) ∷ (codes "json", Json) ∷ []) (bytes_eq name)) Csv

-- the names of marks between groups
abbrev pub group_marks : List (List ℕ × GroupMark)
group_marks =
    (codes ".", Point) ∷ (codes ",", GroupComma) ∷ (codes "'", Apostrophe) ∷ (codes "space", Space) ∷ (codes " ", Space)
    ∷ (codes "nbsp", NoBreak) ∷ []

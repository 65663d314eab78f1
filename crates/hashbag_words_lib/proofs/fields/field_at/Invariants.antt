use Rattle.std.proofs.Common.{◌≡◌, length}
use denote.Shadow.{shadow}
use denote.Text.{Utf8}
use Rattle.std.specs.List.{slice_get}
use Rattle.hashbag_words_lib.specs.Fields.{fields_of}
use Rattle.hashbag_words_lib.proofs.fields.field_at.Given as goal

-- the field is in the rest of the line, behind as many fields as are left
abbrev pub invariant-parts : goal.invariant-parts
invariant-parts l = shadow (Utf8 l.rest) × (slice_get (fields_of l.fn.separator l.fn.line) l.fn.index ≡ slice_get (fields_of l.fn.separator l.rest) l.left)

abbrev pub decreases-parts : goal.decreases-parts
decreases-parts l = length l.rest

-- Articles by the bytes of their fields.
use Rattle.std.specs.Prelude.{Bool, bytes_eq}
use Rattle.std.specs.Cmp.Lexicographic.{pointwise}
use Rattle.hashbag_csv.specs.Readers.{Record}

-- whether two articles, as bytes, have equal fields in the same order
abbrev pub same_article : Record → Record → Bool
same_article x y = pointwise bytes_eq x y

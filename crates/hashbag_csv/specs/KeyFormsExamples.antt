-- The definition of a trimmed text computes.
use Rattle.std.specs.Prelude.{◌≡◌, codes, refl}
use Rattle.hashbag_csv.specs.KeyForms.{trimmed}

-- spaces and tabs at both ends, not those between words
both : trimmed (codes " \t bolt  M4\t ") ≡ codes "bolt  M4"
both = refl

-- line ends are kept; a text of nothing but spaces and tabs becomes empty
other : trimmed (codes "\nbolt\r") ≡ codes "\nbolt\r"
other = refl

alone : trimmed (codes " \t ") ≡ codes ""
alone = refl

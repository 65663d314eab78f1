-- The mark between the whole part of a number and its decimals.
use Rattle.std.specs.Prelude.{ℕ}
use Rattle.hashbag_csv.specs.declared.scale.Mark.{Mark}
use Rattle.hashbag_csv.specs.declared.scale.Mark.TheVariants.{Point, Comma}

-- the code of a mark
abbrev pub code_of : Mark → ℕ
code_of Point = 46
code_of Comma = 44

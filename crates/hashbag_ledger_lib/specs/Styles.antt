-- How the files of a stock are written.
use Rattle.std.specs.Prelude.{ℕ}
use Rattle.hashbag_csv.specs.declared.delimiter.Delimiter.TheVariants.{Comma}
use Rattle.hashbag_csv.specs.declared.scale.Mark.TheVariants.{Point}
use Rattle.hashbag_ledger_lib.specs.declared.style.Style.{Style}

-- n decimals after a point, and commas between fields: `bolt,1.5`
abbrev pub plain_style : ℕ → Style
plain_style n = record { scale = n; mark = Point; delimiter = Comma }

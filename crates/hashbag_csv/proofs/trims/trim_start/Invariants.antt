use Rattle.std.proofs.Common.{◌≡◌, length}
use Rattle.hashbag_csv.specs.KeyForms.{start_trimmed}
use Rattle.hashbag_csv.proofs.trims.trim_start.Given as goal

-- what is left is trimmed to the same
abbrev pub invariant-spaces : goal.invariant-spaces
invariant-spaces l = start_trimmed l.rest ≡ start_trimmed l.fn.bytes

-- a byte less is left
abbrev pub decreases-spaces : goal.decreases-spaces
decreases-spaces l = length l.rest

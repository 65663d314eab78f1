use Rattle.std.proofs.Common.{◌≡◌, ◌+◌, ◌≤◌, drop, min}
use Rattle.hashbag_words_lib.specs.Bars.{columns}
use Rattle.hashbag_words_lib.proofs.bars.columns_within.Given as goal

-- with those of the characters that are left the columns become those of all
abbrev pub invariant-loop-c : goal.invariant-loop-c
invariant-loop-c l = (l.n ≤ l.limit) × (min l.limit (l.n + columns (drop l.c-index l.name)) ≡ min l.limit (columns l.name))

use Rattle.std.proofs.Common.{◌≡◌, ◌++◌}
use Rattle.hashbag_c.proofs.text_walks.pairs_of.Given as goal

-- the pairs so far, and what is left of the walk
abbrev pub invariant-loop-value : goal.invariant-loop-value
invariant-loop-value l = record { parts : l.pairs.items ++ l.value-iterator ≡ l.initial.value-iterator }

use Rattle.std.proofs.Common.{◌≡◌, ◌++◌, map, take}
use Rattle.hashbag_match_lib.specs.Written.{lent_names}
use Rattle.hashbag_match_lib.proofs.output.push_names.Given as goal

-- the names so far
abbrev pub invariant-loop-name : goal.invariant-loop-name
invariant-loop-name l = lent_names l.all ≡ lent_names l.fn.all ++ map (λ n. n.now) (take l.name-index l.names)

use Rattle.std.proofs.Common.{map}
use Rattle.regex.specs.Strings.{match_bytes}
use Rattle.hashbag_words_lib.specs.Counts.{Takes}
use Rattle.hashbag_words_lib.specs.Tokens.{nonempty, token_of}
use Rattle.hashbag_words_lib.proofs.counting.add_matches.Given as goal

-- the matches so far are counted
abbrev pub invariant-loop-found : goal.invariant-loop-found
invariant-loop-found g l = Takes g.K.TokenSink.has l.fn.sink l.sink (map (token_of l.fn.fold) (nonempty (map match_bytes l.yielded)))

use Rattle.std.proofs.Common.{map}
use Rattle.hashbag_words_lib.specs.Counts.{Takes}
use Rattle.hashbag_words_lib.specs.Tokens.{token_of}
use Rattle.hashbag_words_lib.proofs.counting.add_pieces.Given as goal

-- the pieces so far are counted
abbrev pub invariant-loop-piece : goal.invariant-loop-piece
invariant-loop-piece g l = Takes g.K.TokenSink.has l.fn.sink l.sink (map (λ piece. token_of l.fn.fold piece.now) l.yielded)

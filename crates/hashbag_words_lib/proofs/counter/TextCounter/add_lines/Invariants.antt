use Rattle.std.proofs.Common.{◌≡◌, length}
use Rattle.hashbag_words_lib.specs.Counted.{HasCounted}
use Rattle.hashbag_words_lib.proofs.FedLemmas.{Feeds}
use Rattle.hashbag_words_lib.proofs.counter.TextCounter.add_lines.Given as goal

-- what the block has before the rest is fed
abbrev pub invariant-lines : goal.invariant-lines
invariant-lines g l =
    Feeds (HasCounted g.K.TokenSink.has) l.fn.self l.self l.fn.block l.rest × (l.self.rule ≡ l.fn.self.rule) × (l.self.reading.bad_lines ≡ l.fn.self.reading.bad_lines)

abbrev pub decreases-lines : goal.decreases-lines
decreases-lines g l = length l.rest

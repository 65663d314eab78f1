use Rattle.std.proofs.Common.{◌≡◌, ℕ, List, Option, length}
use Rattle.hashbag_words_lib.specs.Added.{HasAdded}
use Rattle.hashbag_words_lib.specs.declared.choice.Choice.{Choice}
use Rattle.hashbag_words_lib.specs.declared.writing.Format.{Format}
use Rattle.hashbag_words_lib.proofs.FedLemmas.{Feeds}
use Rattle.hashbag_words_lib.proofs.row_counter.RowCounter.add_lines.Given as goal

-- what the block has before the rest is fed
abbrev pub invariant-lines : goal.invariant-lines
invariant-lines g l =
    Feeds (λ (b : Option (Choice × Format) × List (List ℕ × ℕ)). HasAdded g.K.RowSink.has b.0 b.1) l.fn.self l.self l.fn.block l.rest × (l.self.form ≡ l.fn.self.form)
    × (l.self.reading.bad_lines ≡ l.fn.self.reading.bad_lines)

abbrev pub decreases-lines : goal.decreases-lines
decreases-lines g l = length l.rest

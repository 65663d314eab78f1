use Rattle.std.proofs.Common.{◌++◌}
use Rattle.hashbag_words_lib.proofs.AddedLemmas.{Added-nothing}
use Rattle.hashbag_words_lib.proofs.row_counter.RowCounter.end_file.Goals as goal

-- the next file begins
pub returns-clause-added : goal.returns-clause-added
returns-clause-added g c shown before text h =
    let self = c.end_last.new.self in
    let did = c.in_ok-end_last.ensures.added shown before text h in (
      did.0,
      did.1,
      Added-nothing g.K.RowSink.has self.form shown (before ++ did.0) self.sink self.partial.items c.new-self.result did.2 c.in_ok-end_last.ensures.ended c.new-self.ensures.unread.0,
    )

use Rattle.hashbag_words_lib.proofs.AddedLemmas.{Added-nothing}
use Rattle.hashbag_words_lib.proofs.row_counter.RowCounter.new.Goals as goal

pub returns-clause-begins : goal.returns-clause-begins
returns-clause-begins g c shown before has =
    Added-nothing g.K.RowSink.has c.args.form shown before c.args.sink c.new.result.items c.new-2.result has c.new.ensures.items c.new-2.ensures.unread.0

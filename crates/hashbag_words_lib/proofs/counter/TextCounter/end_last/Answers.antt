use Rattle.hashbag_words_lib.proofs.CountedLemmas.{ended_whole, ended_last-ok, Counted-bad-last, none_in, some_in, read_ok, told}
use Rattle.hashbag_words_lib.proofs.counter.TextCounter.end_last.Goals as goal

pub returns-then-is_empty-clause-counted : goal.returns-then-is_empty-clause-counted
returns-then-is_empty-clause-counted g c before text h =
    let self = c.args.self.now in
    ended_whole g.K.TokenSink.has self.rule before self.sink self.partial.items self.reading text (none_in self.partial.items self.partial.ok.0 c.is_empty.ensures c.if-is_empty.true) h

pub returns-then-is_empty-clause-ended : goal.returns-then-is_empty-clause-ended
returns-then-is_empty-clause-ended g c = let self = c.args.self.now in none_in self.partial.items self.partial.ok.0 c.is_empty.ensures c.if-is_empty.true

pub returns-clause-counted : goal.returns-clause-counted
returns-clause-counted g c =
    let self = c.args.self.now in
    let did = c.add_bytes-done.ensures in
    ended_last-ok g.K.TokenSink.has c.add_bytes-done.result self.rule self.sink c.add_bytes-done.new.sink self.partial.items c.deref.result.now self.reading c.add_bytes-done.new.reading
    (some_in self.partial.items self.partial.ok.0 c.is_empty.ensures c.if-is_empty.false) c.deref.ensures.value did.counts
    (read_ok c.add_bytes-done.result self.rule self.reading c.add_bytes-done.new.reading c.deref.result.now did.passed did.kept did.skipped did.plain did.replaced did.bad_lines did.line)

pub returns-clause-bad : goal.returns-clause-bad
returns-clause-bad g c =
    let self = c.args.self.now in
    let did = c.add_bytes-done.ensures in
    let some = some_in self.partial.items self.partial.ok.0 c.is_empty.ensures c.if-is_empty.false in
    told c.add_bytes-done.result
    (λ bad before text h. Counted-bad-last g.K.TokenSink.has self.rule before self.sink self.partial.items c.deref.result.now self.reading c.add_bytes-done.new.reading text some c.deref.ensures.value bad did.bad_lines did.line h)
    did.bad

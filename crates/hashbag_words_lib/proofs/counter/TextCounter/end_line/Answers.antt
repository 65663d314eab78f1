use Rattle.hashbag_words_lib.proofs.CountedLemmas.{Counted-line-ok, Counted-bad, line_alone, line_joined, none_in, read_ok, told}
use Rattle.hashbag_words_lib.proofs.counter.TextCounter.end_line.Goals as goal

-- nothing was kept
pub returns-then-is_empty-clause-counted : goal.returns-then-is_empty-clause-counted
returns-then-is_empty-clause-counted g c =
    let self = c.args.self.now in
    let did = c.add_bytes.ensures in
    let none = none_in self.partial.items self.partial.ok.0 c.is_empty.ensures c.if-is_empty.true in
    Counted-line-ok g.K.TokenSink.has c.add_bytes.result self.rule self.sink c.add_bytes.new.sink self.partial.items c.args.tail.now c.without_return.result.now self.partial.items self.reading c.add_bytes.new.reading c.requires
    (line_alone self.partial.items c.args.tail.now c.without_return.result.now none c.without_return.ensures) none did.counts
    (read_ok c.add_bytes.result self.rule self.reading c.add_bytes.new.reading c.without_return.result.now did.passed did.kept did.skipped did.plain did.replaced did.bad_lines did.line)

pub returns-then-is_empty-clause-bad : goal.returns-then-is_empty-clause-bad
returns-then-is_empty-clause-bad g c =
    let self = c.args.self.now in
    let did = c.add_bytes.ensures in
    let line = line_alone self.partial.items c.args.tail.now c.without_return.result.now (none_in self.partial.items self.partial.ok.0 c.is_empty.ensures c.if-is_empty.true) c.without_return.ensures in
    told c.add_bytes.result
    (λ bad before text h more. Counted-bad g.K.TokenSink.has self.rule before self.sink self.partial.items c.args.tail.now c.without_return.result.now self.reading c.add_bytes.new.reading text more c.requires
    line bad did.bad_lines did.line h)
    did.bad

-- what was kept comes before
pub returns-clause-counted : goal.returns-clause-counted
returns-clause-counted g c =
    let self = c.args.self.now in
    let did = c.add_bytes-done.ensures in
    Counted-line-ok g.K.TokenSink.has c.add_bytes-done.result self.rule self.sink c.add_bytes-done.new.sink self.partial.items c.args.tail.now c.without_return-2.result.now c.clear.new.self.items self.reading c.add_bytes-done.new.reading c.requires
    (line_joined self.partial.items c.args.tail.now c.without_return-2.result.now c.deref.ensures.value c.in-Ok.ensures.items c.without_return-2.ensures) c.clear.ensures.items did.counts
    (read_ok c.add_bytes-done.result self.rule self.reading c.add_bytes-done.new.reading c.without_return-2.result.now did.passed did.kept did.skipped did.plain did.replaced did.bad_lines did.line)

pub returns-clause-bad : goal.returns-clause-bad
returns-clause-bad g c =
    let self = c.args.self.now in
    let did = c.add_bytes-done.ensures in
    let line = line_joined self.partial.items c.args.tail.now c.without_return-2.result.now c.deref.ensures.value c.in-Ok.ensures.items c.without_return-2.ensures in
    told c.add_bytes-done.result
    (λ bad before text h more. Counted-bad g.K.TokenSink.has self.rule before self.sink self.partial.items c.args.tail.now c.without_return-2.result.now self.reading c.add_bytes-done.new.reading text more c.requires
    line bad did.bad_lines did.line h)
    did.bad

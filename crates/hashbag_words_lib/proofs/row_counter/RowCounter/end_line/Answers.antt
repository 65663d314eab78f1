use Rattle.hashbag_words_lib.proofs.AddedLemmas.{Added-line-ok, Added-bad}
use Rattle.hashbag_words_lib.proofs.CountedLemmas.{line_alone, line_joined, none_in, told}
use Rattle.hashbag_words_lib.proofs.row_counter.RowCounter.end_line.Goals as goal

-- nothing was kept
pub returns-then-is_empty-clause-added : goal.returns-then-is_empty-clause-added
returns-then-is_empty-clause-added g c =
    let self = c.args.self.now in
    let did = c.add_line.ensures in
    let none = none_in self.partial.items self.partial.ok.0 c.is_empty.ensures c.if-is_empty.true in
    Added-line-ok g.K.RowSink.has self.form self.sink c.add_line.new.sink self.partial.items c.args.tail.now c.without_return.result.now self.partial.items self.reading c.add_line.new.reading c.requires
    (line_alone self.partial.items c.args.tail.now c.without_return.result.now none c.without_return.ensures) none did.bad_lines did.line c.add_line.result did.rows

pub returns-then-is_empty-clause-bad : goal.returns-then-is_empty-clause-bad
returns-then-is_empty-clause-bad g c =
    let self = c.args.self.now in
    let did = c.add_line.ensures in
    let line = line_alone self.partial.items c.args.tail.now c.without_return.result.now (none_in self.partial.items self.partial.ok.0 c.is_empty.ensures c.if-is_empty.true) c.without_return.ensures in
    told c.add_line.result
    (λ bad shown before text h more. Added-bad g.K.RowSink.has self.form shown before self.sink self.partial.items c.args.tail.now c.without_return.result.now self.reading c.add_line.new.reading text more c.requires
    line bad did.bad_lines did.line h)
    did.bad

-- what was kept comes before
pub returns-clause-added : goal.returns-clause-added
returns-clause-added g c =
    let self = c.args.self.now in
    let did = c.add_line-done.ensures in
    Added-line-ok g.K.RowSink.has self.form self.sink c.add_line-done.new.sink self.partial.items c.args.tail.now c.without_return-2.result.now c.clear.new.self.items self.reading c.add_line-done.new.reading c.requires
    (line_joined self.partial.items c.args.tail.now c.without_return-2.result.now c.deref.ensures.value c.in-Ok.ensures.items c.without_return-2.ensures) c.clear.ensures.items did.bad_lines did.line c.add_line-done.result did.rows

pub returns-clause-bad : goal.returns-clause-bad
returns-clause-bad g c =
    let self = c.args.self.now in
    let did = c.add_line-done.ensures in
    let line = line_joined self.partial.items c.args.tail.now c.without_return-2.result.now c.deref.ensures.value c.in-Ok.ensures.items c.without_return-2.ensures in
    told c.add_line-done.result
    (λ bad shown before text h more. Added-bad g.K.RowSink.has self.form shown before self.sink self.partial.items c.args.tail.now c.without_return-2.result.now self.reading c.add_line-done.new.reading text more c.requires
    line bad did.bad_lines did.line h)
    did.bad

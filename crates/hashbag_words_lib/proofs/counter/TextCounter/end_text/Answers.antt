use Rattle.std.proofs.Common.{◌++◌, sym, ◌∙◌}
use Rattle.hashbag_words_lib.specs.Tokens.{tokens_of}
use Rattle.hashbag_words_lib.proofs.CountedLemmas.{Counted-nothing, told_same}
use Rattle.hashbag_words_lib.proofs.counter.TextCounter.end_text.Goals as goal

-- the next text begins
pub returns-clause-counted : goal.returns-clause-counted
returns-clause-counted g c before text h =
    let self = c.end_last.new.self in
    let did = c.in_ok-end_last.ensures.counted before text h in (
      Counted-nothing g.K.TokenSink.has self.rule (before ++ tokens_of c.args.self.now.rule text) self.sink self.partial.items c.new-self.result did.0 c.in_ok-end_last.ensures.ended c.new-self.ensures.unread,
      λ rejected. did.1.passed (c.end_last.ensures.bad_lines ∙ rejected),
    )

pub returns-clause-reading : goal.returns-clause-reading
returns-clause-reading g c before text h = (c.in_ok-end_last.ensures.counted before text h).1

pub returns-in_err-end_last-clause-bad : goal.returns-in_err-end_last-clause-bad
returns-in_err-end_last-clause-bad g c = told_same c.from_residual.result c.in_err-end_last.field-0.0 c.from_residual.ensures.1 c.in_err-end_last.ensures.bad

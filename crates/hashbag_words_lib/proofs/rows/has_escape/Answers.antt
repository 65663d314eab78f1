use Rattle.std.proofs.Common.{slice_index, sym, ◌∙◌}
use Rattle.memchr.specs.Find.{is_byte3}
use Rattle.hashbag_words_lib.proofs.RowLemmas.{none_found, no_letter, escaped-plain}
use Rattle.hashbag_words_lib.proofs.rows.has_escape.Goals as goal

pub returns : goal.returns
returns c = λ no.
    let token = c.args.token.now in
    let found = none_found (is_byte3 9 10 13) token c.memchr3.result c.memchr3.ensures (sym c.is_some.ensures ∙ c.if-is_some.false) in
    escaped-plain token (λ i below. no_letter (slice_index token i) (found i below) (c.has_backslash.ensures no i below))

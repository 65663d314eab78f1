use Rattle.std.proofs.Common.{ℕ, List, sym, ◌∙◌, ap, subst}
use Rattle.std.proofs.lemmas.Bool.{false≢true}
use Rattle.std.proofs.lemmas.Str.{is_utf8-from_IsUtf8}
use Rattle.hashbag_words_lib.specs.Counts.{Takes}
use Rattle.hashbag_words_lib.specs.Tokens.{tokens_of_line}
use Rattle.hashbag_words_lib.proofs.ReadLemmas.{not_utf8, text_is_good, text_is_plain, tokens_of_text}
use Rattle.hashbag_words_lib.proofs.counting.add_bytes.Goals as goal

pub returns-in_ok-add_line-in-Ok-clause-counts : goal.returns-in_ok-add_line-in-Ok-clause-counts
returns-in_ok-add_line-in-Ok-clause-counts g c =
    let line = c.args.line.now in
    let text = c.in-Ok.ensures.cases in
    subst (λ (l : List (List ℕ)). Takes g.K.TokenSink.has c.args.sink.now c.add_line.new.sink l)
    (ap (λ (l : List ℕ). tokens_of_line c.args.rule.now l) text.0 ∙ tokens_of_text c.args.rule.now line (is_utf8-from_IsUtf8 line text.1)) c.in_ok-add_line-in-Ok.ensures

pub returns-in_ok-add_line-in-Ok-clause-passed : goal.returns-in_ok-add_line-in-Ok-clause-passed
returns-in_ok-add_line-in-Ok-clause-passed g c = λ is. text_is_good c.args.rule.now c.args.line.now (is_utf8-from_IsUtf8 c.args.line.now c.in-Ok.ensures.cases.1)

pub returns-in_ok-add_line-in-Ok-clause-skipped : goal.returns-in_ok-add_line-in-Ok-clause-skipped
returns-in_ok-add_line-in-Ok-clause-skipped g c other = absurd (false≢true (sym (text_is_good c.args.rule.now c.args.line.now (is_utf8-from_IsUtf8 c.args.line.now c.in-Ok.ensures.cases.1)) ∙ other))

pub returns-in_ok-add_line-in-Ok-clause-replaced : goal.returns-in_ok-add_line-in-Ok-clause-replaced
returns-in_ok-add_line-in-Ok-clause-replaced g c other = absurd (false≢true (sym (text_is_plain c.args.rule.now c.args.line.now (is_utf8-from_IsUtf8 c.args.line.now c.in-Ok.ensures.cases.1)) ∙ other))

pub add_other-requires : goal.add_other-requires
add_other-requires g c = not_utf8 c.args.line.now c.in-Err.ensures.cases.0

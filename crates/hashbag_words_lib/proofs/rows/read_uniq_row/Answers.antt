use Rattle.std.proofs.Common.{◌++◌, ℕ, List, None, Some, Err, sym, ◌∙◌, ap, subst, arith}
use Rattle.std.proofs.lemmas.Fmt.{parse-decimal}
use Rattle.std.proofs.lemmas.Str.Pattern.{split_parts}
use Rattle.hashbag_words_lib.specs.Rows.{IsUniqLineOf}
use Rattle.hashbag_words_lib.proofs.RowLemmas.{count_read, number_read}
use Rattle.hashbag_words_lib.proofs.UniqLemmas.{split_uniq}
use Rattle.hashbag_words_lib.proofs.rows.read_uniq_row.Goals as goal

pub returns-in_default-clause-row : goal.returns-in_default-clause-row
returns-in_default-clause-row c = λ token count text fits is.
    let past = c.past_spaces.ensures in
    split_uniq None c.args.line.now past.rest.0 c.past_spaces.result.now token count c.in_default.ensures.cases past.rest.1 past.rest.2 past.first fits is

pub returns-in_default-parse-clause-row : goal.returns-in_default-parse-clause-row
returns-in_default-parse-clause-row c = λ token count text fits is.
    let past = c.past_spaces.ensures in
    let parts = split_uniq (Some (c.in-Some.digits, c.in-Some.token)) c.args.line.now past.rest.0 c.past_spaces.result.now token count c.in-Some.ensures.cases past.rest.1 past.rest.2 past.first fits is in
    let read = parse-decimal 64 count c.in-Some.digits.now (Err c.in_default-parse.field-0) fits fits parts.0 c.in_default-parse.ensures.value.0 in
    absurd (cc)

pub returns-clause-row : goal.returns-clause-row
returns-clause-row c = λ token count text fits is.
    let past = c.past_spaces.ensures in
    let parts = split_uniq (Some (c.in-Some.digits, c.in-Some.token)) c.args.line.now past.rest.0 c.past_spaces.result.now token count c.in-Some.ensures.cases past.rest.1 past.rest.2 past.first fits is in
    (c.in_ok-to_string.ensures.ok ∙ parts.1, count_read c.parse.result c.in-Ok.count count c.in-Some.digits.now c.in-Ok.is fits parts.0 c.parse.ensures.value.0)

pub returns-clause-line : goal.returns-clause-line
returns-clause-line c =
    let past = c.past_spaces.ensures in
    let parts = split_parts 32 c.past_spaces.result.now (Some (c.in-Some.digits, c.in-Some.token)) c.in-Some.ensures.cases (omega arith) in
    let line : IsUniqLineOf c.args.line.now c.in-Some.token.now c.in-Ok.count = record {
      spaces = past.rest.0;
      digits = c.in-Some.digits.now;
      parts = past.rest.2 ∙ ap (λ (l : List ℕ). past.rest.0 ++ l) parts.0;
      blank = past.rest.1;
      first = parts.1;
      number = number_read c.parse.result c.in-Ok.count c.in-Some.digits.now c.in-Ok.is c.parse.ensures.value.0;
    } in
    subst (λ (t : List ℕ). IsUniqLineOf c.args.line.now t c.in-Ok.count) (sym c.in_ok-to_string.ensures.ok) line

use Rattle.std.proofs.Common.{◌≡◌, ◌≢◌, ℕ, false, List, Option, None, Some, Err, String, string_bytes, IfNone, IfSome, IsUtf8, sym, ◌∙◌, ap, subst}
use Rattle.std.specs.Global.{Global}
use Rattle.std.proofs.lemmas.Fmt.{parse-decimal}
use Rattle.std.proofs.lemmas.Option.{same_Some}
use Rattle.hashbag_words_lib.proofs.RowLemmas.{unescaped-escaped, split_row, count_read, number_read, line_read}
use Rattle.hashbag_words_lib.specs.Rows.{unescaped}
use Rattle.hashbag_words_lib.proofs.rows.read_row.Goals as goal

-- the token that was read
token_is : (written : List ℕ) {read : Option (String Global)} {token : String Global} → read ≡ Some token → IfSome read (λ t. unescaped false written ≡ Some (string_bytes t)) → unescaped false written ≡ Some (string_bytes token)
token_is written is means = subst (λ (o : Option (String Global)). IfSome o (λ t. unescaped false written ≡ Some (string_bytes t))) is means

pub returns-in_default-clause-row : goal.returns-in_default-clause-row
returns-in_default-clause-row c = λ token count text fits is. split_row None c.args.line.now token count c.in_default.ensures.cases is

pub returns-in_default-parse-clause-row : goal.returns-in_default-parse-clause-row
returns-in_default-parse-clause-row c = λ token count text fits is.
    let read = parse-decimal 64 count c.in-Some.digits.now (Err c.in_default-parse.field-0) fits fits (split_row (Some (c.in-Some.written, c.in-Some.digits)) c.args.line.now token count c.in-Some.ensures.cases is).1 c.in_default-parse.ensures.value.0 in
    absurd (cc)

pub returns-in_default-2-clause-row : goal.returns-in_default-2-clause-row
returns-in_default-2-clause-row c = λ token count text fits is.
    let none = subst (λ (o : Option (String Global)). IfNone o ((t : List ℕ) → IsUtf8 t → unescaped false c.in-Some.written.now ≢ Some t)) c.in_default-2.is c.in_ok-token.ensures.no_token in
    absurd (none token text (ap (λ (l : List ℕ). unescaped false l) (split_row (Some (c.in-Some.written, c.in-Some.digits)) c.args.line.now token count c.in-Some.ensures.cases is).0 ∙ unescaped-escaped token))

pub returns-clause-row : goal.returns-clause-row
returns-clause-row c = λ token count text fits is.
    let parts = split_row (Some (c.in-Some.written, c.in-Some.digits)) c.args.line.now token count c.in-Some.ensures.cases is in
    let means = token_is c.in-Some.written.now c.in-Some-2.is c.in_ok-token.ensures.token in
    let read : unescaped false c.in-Some.written.now ≡ Some token = ap (λ (l : List ℕ). unescaped false l) parts.0 ∙ unescaped-escaped token in
    (same_Some _ _ (sym means ∙ read), count_read c.parse.result c.in-Ok.count count c.in-Some.digits.now c.in-Ok.is fits parts.1 c.parse.ensures.value.0)

pub returns-clause-line : goal.returns-clause-line
returns-clause-line c =
    line_read c.args.line.now (string_bytes c.in-Some-2.token) c.in-Ok.count c.in-Some.written c.in-Some.digits c.in-Some.ensures.cases (token_is c.in-Some.written.now c.in-Some-2.is c.in_ok-token.ensures.token)
    (number_read c.parse.result c.in-Ok.count c.in-Some.digits.now c.in-Ok.is c.parse.ensures.value.0)

use Rattle.std.proofs.Common.{◌≡◌, ◌∷◌, [], ℕ, List, string_bytes, IfOk, OnOk, sym, subst, subst₂}
use Rattle.hashbag_words_lib.specs.Counts.{TakesRows}
use Rattle.hashbag_words_lib.specs.Rows.{IsRead, IsRowOf, IsRowText}
use Rattle.hashbag_words_lib.specs.Sorted.{row_of}
use Rattle.hashbag_words_lib.proofs.CountedLemmas.{told}
use Rattle.hashbag_words_lib.proofs.RowGivenLemmas.{given_as, given_line}
use Rattle.hashbag_words_lib.proofs.merging.add_row.Goals as goal

pub returns-in-Ok-2-clause-row : goal.returns-in-Ok-2-clause-row
returns-in-Ok-2-clause-row g c = λ token count text fits is.
    let read = c.in_ok-token.ensures.row token count text fits (subst (λ l. IsRowText c.args.form l token count) (sym c.in-Ok.ensures.cases.0) is) in
    let both = subst (λ r. IsRead token count r) c.in-Ok-2.is read in
    given_as g.K.RowSink.has c.put_row.result c.args.sink.now c.put_row.new.self (string_bytes c.in-Ok-2.token) token c.in-Ok-2.count count both.0 both.1 c.put_row.ensures.row

pub returns-in-Ok-2-clause-line : goal.returns-in-Ok-2-clause-line
returns-in-Ok-2-clause-line g c =
    given_line g.K.RowSink.has c.put_row.result c.args.form c.args.line.now c.args.sink.now c.put_row.new.self (string_bytes c.in-Ok-2.token) c.in-Ok-2.count
    (subst (λ l. IsRowOf c.args.form l (string_bytes c.in-Ok-2.token, c.in-Ok-2.count)) c.in-Ok.ensures.cases.0
    (subst (λ r. IfOk r (λ p. IsRowOf c.args.form c.in-Ok.text.now (row_of p))) c.in-Ok-2.is c.in_ok-token.ensures.line))
    c.put_row.ensures.row

pub returns-in-Ok-2-clause-bad : goal.returns-in-Ok-2-clause-bad
returns-in-Ok-2-clause-bad g c = told c.put_row.result (λ none. absurd none) c.put_row.ensures.line

pub returns-in-Ok-2-clause-kept : goal.returns-in-Ok-2-clause-kept
returns-in-Ok-2-clause-kept g c = told c.put_row.result (λ none. absurd none) c.put_row.ensures.line

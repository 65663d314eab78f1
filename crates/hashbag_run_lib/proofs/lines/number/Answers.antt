use Rattle.std.proofs.Common.{ℕ, List, sym, ◌∙◌, subst}
use Rattle.std.specs.Str.Parse.{ParsesUnsigned}
use Rattle.std.proofs.lemmas.Str.Parse.{parse_digits}
use Rattle.hashbag_run_lib.proofs.CommandLemmas.{number_too_long, number_odd, number_read, digits_are_text, digits_model}
use Rattle.hashbag_run_lib.proofs.lines.number.Goals as goal
use Rattle.hashbag_run_lib.proofs.lines.number.Goals.{then-word-gt-DIGITS-via-then-word-gt-DIGITS, then-word-gt-DIGITS-via-else-word-gt-DIGITS+then-not-is_digits}

pub returns-then-word-gt-DIGITS : goal.returns-then-word-gt-DIGITS
returns-then-word-gt-DIGITS c =
    elim c.then-word-gt-DIGITS.branch [
      | then-word-gt-DIGITS-via-then-word-gt-DIGITS w ↦ number_too_long c.args.word.now w.if-word-gt-DIGITS.true
      | then-word-gt-DIGITS-via-else-word-gt-DIGITS+then-not-is_digits w ↦ number_odd c.args.word.now (sym w.is_digits.ensures ∙ w.if-not-is_digits.true)
    ]

pub returns-in-Ok : goal.returns-in-Ok
returns-in-Ok c =
    let word = c.args.word.now in
    let digits = sym c.is_digits.ensures ∙ c.if-not-is_digits.false in
    let parsed = subst (λ (bs : List ℕ). ParsesUnsigned 64 10 bs c.parse.result) c.in-Ok.ensures.cases.0 c.parse.ensures.value.0 in
    number_read word c.parse.result c.ok.result c.ok.ensures.value (parse_digits digits_model 64 word c.parse.result parsed digits) digits c.if-word-gt-DIGITS.false

pub returns-in-Err : goal.returns-in-Err
returns-in-Err c = absurd (c.in-Err.ensures.cases.0 (digits_are_text c.args.word.now (sym c.is_digits.ensures ∙ c.if-not-is_digits.false)))

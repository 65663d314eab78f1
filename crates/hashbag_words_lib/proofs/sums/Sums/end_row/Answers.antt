use Rattle.std.proofs.Common.{◌≡◌, ◌<◌, ◌++◌, ℕ, List, Option, String, Global, true, false, string_bytes, arith, sym, subst, ap, ◌∙◌}
use Rattle.hashbag_words_lib.specs.Choice.{shows}
use Rattle.hashbag_words_lib.specs.Sums.{EndsRow}
use Rattle.hashbag_words_lib.specs.Writing.{next_row_text}
use Rattle.hashbag_words_lib.proofs.SumLemmas.{ended_hidden, ended_none, ended_shown, ended_zero}
use Rattle.hashbag_words_lib.proofs.sums.Sums.end_row.Goals as goal

pub returns-in_default-clause-row : goal.returns-in_default-clause-row
returns-in_default-clause-row g c =
    let self = c.args.self.now in
    subst (λ (held : Option (String Global × ℕ)). EndsRow g.W.TextOutput.written self (record self { held = held })) (sym c.take.ensures.after)
    (ended_none g.W.TextOutput.written self (sym c.take.ensures.value ∙ c.in_default.is))

pub returns-then-count-eq0-clause-row : goal.returns-then-count-eq0-clause-row
returns-then-count-eq0-clause-row g c =
    let self = c.args.self.now in
    subst (λ (held : Option (String Global × ℕ)). EndsRow g.W.TextOutput.written self (record self { held = held })) (sym c.take.ensures.after)
    (ended_zero g.W.TextOutput.written self (c.in-Some.token, c.in-Some.count) (sym c.take.ensures.value ∙ c.in-Some.is) c.if-count-eq0.true)

pub returns-then-not-shows-clause-row : goal.returns-then-not-shows-clause-row
returns-then-not-shows-clause-row g c =
    let self = c.args.self.now in
    let some : 0 < c.in-Some.count = omega (arith, c.if-count-eq0.false) in
    let hidden : shows self.choice (string_bytes c.in-Some.token, c.in-Some.count) ≡ false = cc in
    subst (λ (held : Option (String Global × ℕ)). EndsRow g.W.TextOutput.written self (record self { held = held })) (sym c.take.ensures.after)
    (ended_hidden g.W.TextOutput.written self (c.in-Some.token, c.in-Some.count) (sym c.take.ensures.value ∙ c.in-Some.is) some hidden)

pub returns-in-Ok-clause-row : goal.returns-in-Ok-clause-row
returns-in-Ok-clause-row g c =
    let self = c.args.self.now in
    let text = c.push_in.new.text in
    let some : 0 < c.in-Some.count = omega (arith, c.if-count-eq0.false) in
    let is_shown : shows self.choice (string_bytes c.in-Some.token, c.in-Some.count) ≡ true = cc in
    let is = c.in-Ok.ensures ∙ ap (λ (l : List ℕ). self.part.items ++ next_row_text self.format self.is_empty (l, c.in-Some.count)) c.as_str-2.ensures.value in
    subst (λ (held : Option (String Global × ℕ)). EndsRow g.W.TextOutput.written self (record self { held = held; is_empty = false; part = text })) (sym c.take.ensures.after)
    (ended_shown g.W.TextOutput.written self (c.in-Some.token, c.in-Some.count) (sym c.take.ensures.value ∙ c.in-Some.is) text some is_shown is)

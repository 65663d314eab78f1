use Rattle.std.proofs.Common.{◌≡◌, ◌++◌, ◌∷◌, [], ℕ, List, string_bytes, ap, ◌∙◌}
use Rattle.hashbag_words_lib.specs.Rows.{escaped}
use Rattle.hashbag_words_lib.proofs.TokenLineLemmas.{line_added}
use Rattle.hashbag_words_lib.proofs.token_lines.TokenLinesTokenSink.put_token.Goals as goal

pub returns : goal.returns
returns g c before h =
    let self = c.args.self.now in
    line_added (g.W.TextOutput.written self.to) self.part.items c.push_line.new.part.items (string_bytes c.args.token) before
    (c.in_ok-push_line.ensures ∙ ap (λ (l : List ℕ). self.part.items ++ (escaped l ++ 10 ∷ [])) c.as_bytes.ensures.value) h

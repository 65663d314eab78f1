use Rattle.std.proofs.Common.{◌≡◌, ℕ, List, map, ◌∙◌, ap, subst}
use Rattle.std.proofs.lemmas.Result.{on_ok_weaker}
use Rattle.std.specs.Borrow.{Bor}
use Rattle.hashbag_core.proofs.CallerLemmas.{items_that_came}
use Rattle.hashbag_words_lib.specs.Counts.{Takes}
use Rattle.hashbag_words_lib.specs.Tokens.{spaced_words, token_of}
use Rattle.hashbag_words_lib.proofs.CountLemmas.{map-map}
use Rattle.hashbag_words_lib.proofs.WordLemmas.{YieldsList-from_split_whitespace}
use Rattle.hashbag_words_lib.proofs.counting.add_words.Goals as goal

pub returns : goal.returns
returns g c = on_ok_weaker c.add_pieces.result (λ h.
    let token = token_of c.args.fold in
    let came : map (λ (x : Bor (List ℕ)). x.now) h.0 ≡ spaced_words c.args.line.now = items_that_came h.0 h.1 (YieldsList-from_split_whitespace c.args.line.now c.utf8.line c.split_whitespace.ensures.rest) in
    subst (λ (l : List (List ℕ)). Takes g.K.TokenSink.has c.args.sink.now c.add_pieces.new.sink l) (map-map token (λ (x : Bor (List ℕ)). x.now) h.0 ∙ ap (λ (l : List (List ℕ)). map token l) came) h.2)
    c.add_pieces.ensures

use Rattle.std.proofs.Common.{ℕ, List, ◌∷◌, [], subst}
use Rattle.hashbag_words_lib.specs.Counts.{HasTokens, Takes}
use Rattle.hashbag_words_lib.specs.Tokens.{token_of}
use Rattle.hashbag_words_lib.proofs.columns.add_record.Goals as goal

pub returns-in-Ok : goal.returns-in-Ok
returns-in-Ok g c =
    subst (λ (text : List ℕ). Takes HasTokens c.args.bag.now c.add_piece.new.sink (token_of c.args.fold text ∷ [])) c.in_ok-field.ensures.value c.in-Ok.ensures

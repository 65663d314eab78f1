use Rattle.std.proofs.Common.{ℕ, List, ◌∷◌, [], map, ◌∙◌, ap, subst}
use Rattle.std.proofs.lemmas.Str.{is_utf8-from_IsUtf8}
use Rattle.hashbag_words_lib.specs.Counts.{Takes}
use Rattle.hashbag_words_lib.specs.Tokens.{nonempty, token_of}
use Rattle.hashbag_words_lib.proofs.CountLemmas.{Takes-nil}
use Rattle.hashbag_words_lib.proofs.GroupLemmas.{others_are_no_part, text_is_part}
use Rattle.hashbag_words_lib.proofs.ReadLemmas.{not_utf8}
use Rattle.hashbag_words_lib.proofs.counting.add_text.Goals as goal

pub returns-in-Ok : goal.returns-in-Ok
returns-in-Ok g c =
    let bytes = c.args.bytes.now in
    let text = c.in-Ok.ensures.cases in
    let parts = ap (λ (t : List ℕ). t ∷ []) text.0 ∙ text_is_part bytes (is_utf8-from_IsUtf8 bytes text.1) in
    rw (← parts) c.add_match.ensures

pub returns-in-Err : goal.returns-in-Err
returns-in-Err g c =
    subst (λ (l : List (List ℕ)). Takes g.K.TokenSink.has c.args.sink.now c.args.sink.now (map (token_of c.args.fold) (nonempty l))) (others_are_no_part c.args.bytes.now (not_utf8 c.args.bytes.now c.in-Err.ensures.cases.0))
    (Takes-nil g.K.TokenSink.has c.args.sink.now)

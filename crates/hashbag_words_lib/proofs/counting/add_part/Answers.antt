use Rattle.std.proofs.Common.{◌≡◌, ℕ, List, Option, ◌∷◌, [], map, filter, OnOk, sym, ◌∙◌, ap, subst}
use Rattle.std.specs.Str.{is_utf8}
use Rattle.hashbag_words_lib.specs.Counts.{Takes}
use Rattle.hashbag_words_lib.specs.Tokens.{nonempty, part_of, token_of}
use Rattle.hashbag_words_lib.proofs.CountLemmas.{Takes-nil}
use Rattle.hashbag_words_lib.proofs.counting.add_part.Goals as goal

pub returns-in-Some : goal.returns-in-Some
returns-in-Some g c =
    let line = c.args.line.now in
    let part : filter is_utf8 (c.between.result.now ∷ []) ≡ part_of line c.args.place =
    ap (λ (bytes : List ℕ). filter is_utf8 (bytes ∷ [])) c.between.ensures ∙ ap (λ (p : Option (ℕ × ℕ)). part_of line p) (sym c.in-Some.is) in
    subst (λ (l : List (List ℕ)). OnOk c.add_text.result (Takes g.K.TokenSink.has c.args.sink.now c.add_text.new.sink (map (token_of c.args.fold) (nonempty l)))) part c.add_text.ensures

pub returns-in-None : goal.returns-in-None
returns-in-None g c =
    subst (λ (p : Option (ℕ × ℕ)). Takes g.K.TokenSink.has c.args.sink.now c.args.sink.now (map (token_of c.args.fold) (nonempty (part_of c.args.line.now p)))) (sym c.in-None.is)
    (Takes-nil g.K.TokenSink.has c.args.sink.now)

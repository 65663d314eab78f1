use Rattle.std.proofs.Common.{◌≡◌, ℕ, List, map, ◌∙◌, ap, subst}
use Rattle.std.proofs.lemmas.Result.{on_ok_weaker}
use Rattle.std.specs.Borrow.{Bor}
use Rattle.unicode_segmentation.specs.Word.{words}
use Rattle.unicode_segmentation.proofs.SegmentsLemmas.{YieldsList-from_gives}
use Rattle.hashbag_core.proofs.CallerLemmas.{items_that_came}
use Rattle.hashbag_words_lib.specs.Counts.{Takes}
use Rattle.hashbag_words_lib.specs.Tokens.{token_of}
use Rattle.hashbag_words_lib.proofs.CountLemmas.{map-map}
use Rattle.hashbag_words_lib.proofs.counting.add_unicode_words.Goals as goal

pub returns : goal.returns
returns g c = on_ok_weaker c.add_pieces.result (λ h.
    let token = token_of c.args.fold in
    let came : map (λ (x : Bor (List ℕ)). x.now) h.0 ≡ words c.args.line.now = items_that_came h.0 h.1 (YieldsList-from_gives _ _ c.unicode_words.result) ∙ c.unicode_words.ensures.left in
    subst (λ (l : List (List ℕ)). Takes g.K.TokenSink.has c.args.sink.now c.add_pieces.new.sink l) (map-map token (λ (x : Bor (List ℕ)). x.now) h.0 ∙ ap (λ (l : List (List ℕ)). map token l) came) h.2)
    c.add_pieces.ensures

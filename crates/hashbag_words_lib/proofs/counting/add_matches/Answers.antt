use Rattle.std.proofs.Common.{◌≡◌, ℕ, List, ◌∷◌, [], ◌++◌, map, sym, ◌∙◌, ap, subst}
use Rattle.std.proofs.lemmas.Iterator.Consumers.{YieldsList-from_first}
use Rattle.std.proofs.lemmas.List.{map-append}
use Rattle.regex.specs.Patterns.{Re, find_all_str, span}
use Rattle.regex.specs.Strings.{match_bytes, placed_span, placed_spans_left, spans_left, regex_pattern}
use Rattle.hashbag_words_lib.specs.Counts.{Takes}
use Rattle.hashbag_words_lib.specs.Tokens.{nonempty, token_of}
use Rattle.hashbag_words_lib.proofs.CountLemmas.{Takes-nil, Takes-append}
use Rattle.hashbag_words_lib.proofs.MatchLemmas.{next_match, all_matched}
use Rattle.hashbag_core.proofs.CallerLemmas.{items_that_came}
use Rattle.hashbag_words_lib.proofs.counting.add_matches.Goals as goal

pub loop-found-init : goal.loop-found-init
loop-found-init g c = Takes-nil g.K.TokenSink.has c.args.sink.now

pub loop-found-preserved : goal.loop-found-preserved
loop-found-preserved g c =
    let tokens = λ (l : List (List ℕ)). map (token_of c.args.fold) (nonempty l) in
    let seen = map match_bytes c.loop-found.yielded in
    let piece = match_bytes c.in-Some.found in
    let all : tokens (map match_bytes (c.loop-found.yielded ++ c.in-Some.found ∷ [])) ≡ tokens seen ++ tokens (piece ∷ []) =
    ap tokens (map-append match_bytes c.loop-found.yielded (c.in-Some.found ∷ [])) ∙ next_match c.args.fold seen piece in
    let one : Takes g.K.TokenSink.has c.loop-found.sink c.add_match.new.sink (tokens (piece ∷ [])) =
    subst (λ (t : List ℕ). Takes g.K.TokenSink.has c.loop-found.sink c.add_match.new.sink (tokens (t ∷ []))) c.as_str.ensures c.in_ok-add_match.ensures in
    subst (λ (l : List (List ℕ)). Takes g.K.TokenSink.has c.args.sink.now c.add_match.new.sink l) (sym all)
    (Takes-append g.K.TokenSink.has c.args.sink.now c.loop-found.sink c.add_match.new.sink (tokens seen) (tokens (piece ∷ [])) c.loop-found.invariant one)

pub returns : goal.returns
returns g c =
    let line = c.args.line.now in
    let it = c.find_iter-found-items.result in
    let places = map span (find_all_str (regex_pattern c.args.pattern.now) line) in
    let left : placed_spans_left it ≡ map (λ p. (line, p)) places =
    ap (λ (hay : List ℕ). map (λ p. (hay, p)) (spans_left it)) c.find_iter-found-items.ensures.within
    ∙ ap (λ (l : List (ℕ × ℕ)). map (λ p. (line, p)) l) (c.find_iter-found-items.ensures.found ∙ ap (λ (re : Re). map span (find_all_str re line)) c.in_ok-matcher.ensures.pattern) in
    let came : map placed_span c.loop-found.yielded ≡ map (λ p. (line, p)) places =
    items_that_came c.loop-found.yielded (c.next.new.self, (c.loop-found.found-iterator, rw (← c.into_iter-found-iterator.ensures.into_iter_gives) c.loop-found.yielded_by, c.in-None.ensures.steps))
    (YieldsList-from_first placed_span placed_spans_left {s = it} (map (λ p. (line, p)) places) left) in
    subst (λ (l : List (List ℕ)). Takes g.K.TokenSink.has c.args.sink.now c.loop-found.sink (map (token_of c.args.fold) (nonempty l))) (all_matched c.loop-found.yielded line places came) c.loop-found.invariant

use Rattle.std.proofs.Common.{ℕ, List, ◌∷◌, [], map, sym, subst}
use Rattle.std.specs.Borrow.{Bor}
use Rattle.std.proofs.lemmas.List.{map-append}
use Rattle.hashbag_words_lib.specs.Counts.{Takes}
use Rattle.hashbag_words_lib.specs.Tokens.{token_of}
use Rattle.hashbag_words_lib.proofs.CountLemmas.{Takes-nil, Takes-append}
use Rattle.hashbag_words_lib.proofs.counting.add_pieces.Goals as goal

pub loop-piece-init : goal.loop-piece-init
loop-piece-init g c = Takes-nil g.K.TokenSink.has c.args.sink.now

pub loop-piece-preserved : goal.loop-piece-preserved
loop-piece-preserved g c =
    let token = λ (piece : Bor (List ℕ)). token_of c.args.fold piece.now in
    subst (λ (l : List (List ℕ)). Takes g.K.TokenSink.has c.args.sink.now c.add_piece.new.sink l) (sym (map-append token c.loop-piece.yielded (c.in-Some.piece ∷ [])))
    (Takes-append g.K.TokenSink.has c.args.sink.now c.loop-piece.sink c.add_piece.new.sink (map token c.loop-piece.yielded) (token c.in-Some.piece ∷ []) c.loop-piece.invariant c.in_ok-add_piece.ensures)

pub returns : goal.returns
returns g c = (
  c.loop-piece.yielded,
  (c.next.new.self, (c.loop-piece.piece-iterator, rw (← c.into_iter-piece-iterator.ensures.into_iter_gives) c.loop-piece.yielded_by, c.in-None.ensures.steps)),
  c.loop-piece.invariant,
)

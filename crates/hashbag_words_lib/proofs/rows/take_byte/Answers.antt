use Rattle.std.proofs.Common.{ℕ, Bool, false, List, ◌∷◌, Some, sym, ◌∙◌, ap}
use Rattle.hashbag_words_lib.specs.Rows.{resumed}
use Rattle.hashbag_words_lib.proofs.RowLemmas.{resumed-letter, resumed-plain}
use Rattle.hashbag_words_lib.proofs.rows.take_byte.Goals as goal

pub returns-then-is_marked : goal.returns-then-is_marked
returns-then-is_marked c = λ rest.
    let token = c.args.token.now.items in
    ap (λ (m : Bool). resumed token (Some m) (c.args.byte ∷ rest)) c.if-is_marked.true
    ∙ resumed-letter token c.args.byte c.in-Some.meant rest (sym c.in-Some.ensures)
    ∙ ap (λ (l : List ℕ). resumed l (Some false) rest) (sym c.in_ok-push.ensures.items)

pub returns : goal.returns
returns c = λ rest.
    let token = c.args.token.now.items in
    ap (λ (m : Bool). resumed token (Some m) (c.args.byte ∷ rest)) c.if-is_marked.false
    ∙ resumed-plain token c.args.byte rest c.if-byte-eq92.false
    ∙ ap (λ (l : List ℕ). resumed l (Some false) rest) (sym c.in_ok-push-2.ensures.items)

use Rattle.std.proofs.Common.{◌+◌, eqb, arith}
use Rattle.std.proofs.lemmas.Bool.{eqb-true, ne_eqb}
use Rattle.hashbag_slots.specs.Columns.{tag_at}
use Rattle.hashbag_slots.proofs.GroupLemmas.{before_stop}
use Rattle.hashbag_slots.proofs.group.match_tag_before_empty.Goals as goal

pub returns : goal.returns
returns c =
    let ts = c.args.tags.now in let from = c.args.from in let some = c.requires.other in
    before_stop (λ p. eqb (tag_at ts p) c.args.tag) (λ p. eqb (tag_at ts p) 0) from (from + 16) c.match_tag-equal.result c.match_tag-equal.ensures
    (λ p is. ne_eqb (tag_at ts p) 0 (λ none. absurd (let tag = eqb-true _ _ is in omega arith)))
    c.match_tag-empty.result c.match_tag-empty.ensures c.match_tag-empty.type_inv (omega arith) (omega arith)

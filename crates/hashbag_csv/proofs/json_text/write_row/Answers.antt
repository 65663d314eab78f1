use Rattle.std.proofs.Common.{[], ◌∷◌, ◌++◌, ◌∙◌, ap, map, sym}
use Rattle.json.specs.Token.{begin_object, end_object}
use Rattle.std.proofs.lemmas.List.{append-nil}
use Rattle.std.proofs.lemmas.Slice.Zip.{either_empty_from_Zip}
use Rattle.hashbag_csv.specs.Cells.{lent_cell}
use Rattle.hashbag_csv.specs.Written.{members, token_of}
use Rattle.hashbag_csv.proofs.WrittenLemmas.{members_end, part_before}
use Rattle.hashbag_csv.proofs.json_text.write_row.Goals as goal

-- no member is left
pub returns-clause-tokens : goal.returns-clause-tokens
returns-clause-tokens c =
    let writer = c.loop-name.writer in
    let none = members_end _ _ (either_empty_from_Zip c.loop-name.name-iterator c.next.new.self c.next.result c.in-None.is c.next.ensures.steps) in
    c.in_ok-end_object.ensures.ok
    ∙ part_before writer.tokens c.args.writer.now.tokens (begin_object ∷ members (map (λ n. n.now) c.args.names.now) (map token_of (map lent_cell c.args.cells.now))) (end_object ∷ [])
    (sym (ap (λ l. writer.tokens ++ l) none ∙ append-nil writer.tokens) ∙ c.loop-name.invariant.tokens)

use Rattle.std.proofs.Common.{OnOk, ◌∙◌, ap, map, subst}
use Rattle.std.proofs.lemmas.List.{take_all}
use Rattle.std.specs.String.{string_bytes}
use Rattle.hashbag_csv.specs.Readers.{Record}
use Rattle.hashbag_csv.specs.Written.{WritesRecord}
use Rattle.hashbag_csv.proofs.csv_text.push_row.Goals as goal

-- the texts of all cells
pub returns : goal.returns
returns c =
    let all = c.loop-text.invariant ∙ ap (map string_bytes) (take_all _ _ c.loop-text-test.false ∙ c.deref-text-items.ensures.value) ∙ c.in_ok-texts.ensures in
    subst (λ (r : Record). OnOk c.push_record.result (WritesRecord r c.args.writer.now c.push_record.new.writer)) all c.push_record.ensures

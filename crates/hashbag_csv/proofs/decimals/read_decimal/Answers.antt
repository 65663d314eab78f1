use Rattle.hashbag_csv.specs.Marks.{code_of}
use Rattle.hashbag_csv.proofs.DecimalLemmas.{code_low, read_cut}
use Rattle.hashbag_csv.proofs.decimals.read_decimal.Goals as goal

-- the text before the mark and the text after it
pub returns-in-Some : goal.returns-in-Some
returns-in-Some c =
    let m = c.args.scale.mark in
    read_cut (code_of m) (code_low m) c.args.scale.decimals c.character.result c.args.text.now (c.in-Some.whole, c.in-Some.part) c.joined.result c.character.ensures c.in-Some.ensures.cases c.joined.ensures

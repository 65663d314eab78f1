use Rattle.hashbag_csv.specs.Marks.{code_of}
use Rattle.hashbag_csv.proofs.DecimalLemmas.{code_low}
use Rattle.hashbag_csv.proofs.NumberLemmas.{cut_is}
use Rattle.hashbag_csv.proofs.numbers.cut.Goals as goal

pub returns : goal.returns
returns c = let m = c.args.mark in cut_is (code_of m) (code_low m) c.character.result c.args.text.now c.split_once.result c.character.ensures c.split_once.ensures.cases

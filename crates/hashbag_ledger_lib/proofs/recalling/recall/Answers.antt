use Rattle.std.proofs.Common.{◌≡◌, ◌∙◌, ap, rules}
use Rattle.std.specs.Map.{values_of}
use Rattle.hashbag_ledger_lib.specs.Recalls.{recalled}
use Rattle.hashbag_ledger_lib.proofs.RecallLemmas.{all_carried}
use Rattle.hashbag_ledger_lib.proofs.recalling.recall.Goals as goal

-- each has what it carried along
pub returns-clause-carried : goal.returns-clause-carried
returns-clause-carried g c =
    let all : c.in_ok-zip.field-0.items ≡ recalled c.args.movements.items = search rules in
    ap (λ l. values_of l) all ∙ all_carried c.args.movements.items

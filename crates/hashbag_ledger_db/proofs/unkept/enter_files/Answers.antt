use Rattle.std.proofs.Common.{rules, ℕ, ◌<◌, List, length, get_or, subst}
use Rattle.std.specs.Borrow.{Bor}
use Rattle.hashbag_ledger_db.specs.Unkept.{EntersFileOf}
use Rattle.hashbag_ledger_db.proofs.UnkeptLemmas.{one_entered}
use Rattle.hashbag_ledger_db.proofs.unkept.enter_files.Goals as goal

-- one file more
pub loop-i-preserved : goal.loop-i-preserved
loop-i-preserved g c =
    let gives = g.I.Inputs.gives c.args.inputs.now in
    let settings = c.args.settings.now in
    let files = settings.files.items in
    let i = c.loop-i.i in
    let within : i < length files = search rules in
    one_entered gives settings c.args.ledger.now c.loop-i.ledger c.enter_file.new.ledger files i c.index.result.now within c.loop-i.invariant
    (subst (λ (file : Bor (List ℕ)). EntersFileOf gives settings i file.now c.loop-i.ledger c.enter_file.new.ledger) {y = get_or files i c.index.result.now} c.index.ensures c.in_ok-enter_file.ensures)

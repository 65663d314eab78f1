use Rattle.std.proofs.Common.{◌≡◌, ◌-◌, true, length, get_or, take, drop, take_all, length-drop, rules, arith}
use Rattle.std.proofs.lemmas.Grind.{common_steps}
use Rattle.hashbag_ledger_db.specs.Once.{ends_line}
use Rattle.hashbag_ledger_db.proofs.OnceLemmas.{rows_begin}
use Rattle.hashbag_ledger_db.proofs.movements.has_rows.Goals as goal

-- the first line end
pub returns-then-ends_line : goal.returns-then-ends_line
returns-then-ends_line c =
    let text = c.args.text.now in
    let i = c.loop-i.i in
    let ends : ends_line (get_or text i 0) ≡ true = first_of (search rules, grind (arith, common_steps)) in
    let rest : take (length text - i) (drop i text) ≡ drop i text = take_all _ _ (omega (arith, length-drop i text)) in
    rows_begin text _ i c.has_content.result (omega arith) ends rest c.has_content.ensures c.loop-i.invariant

use Rattle.std.proofs.Common.{◌≡◌, false, get_or, rules, arith}
use Rattle.std.proofs.lemmas.Grind.{common_steps}
use Rattle.hashbag_ledger_db.specs.Once.{ends_line}
use Rattle.hashbag_ledger_db.proofs.OnceLemmas.{content_here}
use Rattle.hashbag_ledger_db.proofs.movements.has_content.Goals as goal

pub returns-then-not-ends_line : goal.returns-then-not-ends_line
returns-then-not-ends_line c =
    let none : ends_line (get_or c.args.bytes.now c.loop-i.i 0) ≡ false = first_of (search rules, grind (arith, common_steps)) in
    content_here c.args.bytes.now c.loop-i.i (omega arith) none c.loop-i.invariant

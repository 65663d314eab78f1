use Rattle.std.proofs.Common.{◌≢◌, length, ap, arith}
use Rattle.hashbag_shell.specs.Tables.{first_word}
use Rattle.hashbag_shell.proofs.TableLemmas.{made_names}
use Rattle.hashbag_shell.proofs.table.with_line.Goals as goal

pub returns-then-first-ne1 : goal.returns-then-first-ne1
returns-then-first-ne1 c =
    let mark : length (first_word c.args.line.now) ≢ 1 = omega (arith, ap length c.cut.ensures.first) in
    made_names c.arg.result c.args.command c.in_ok-arg_of.field-0 c.args.line.now c.in_ok-arg_of.ensures mark c.arg.ensures

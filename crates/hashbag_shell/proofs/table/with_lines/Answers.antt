use Rattle.std.proofs.Common.{◌≡◌, true, false, ap, ◌∙◌, codes}
use Rattle.std.specs.Str.{bytes_eq}
use Rattle.hashbag_shell.specs.Tables.{argument_names}
use Rattle.hashbag_shell.proofs.TableLemmas.{lines_at, lines_more, lines_none}
use Rattle.hashbag_shell.proofs.table.with_lines.Goals as goal
use Rattle.hashbag_shell.proofs.table.with_lines.Goals.{then-eq, else-eq+then-is_of_job+in_ok-command, else-eq+else-is_of_job}

pub lines-preserved : goal.lines-preserved
lines-preserved c = elim c.if-eq.branch [
  | then-eq w ↦
      let at : bytes_eq c.cut.result.0.now (codes "@") ≡ true = cc in
      lines_at c.args.lines.now c.lines.line-index _ c.args.job.now c.lines.is_of_job c.if-eq.is_of_job c.cut.result.0.now c.cut.result.1.now
      (argument_names c.lines.command) (argument_names c.if-eq.command) _ c.lines-test.true c.cut.ensures.first c.cut.ensures.rest at
      (w.is_of_job-is ∙ w.has_word-is_of_job.ensures) (ap argument_names w.command-is) c.lines.invariant
  | else-eq+then-is_of_job+in_ok-command w ↦
      let at : bytes_eq c.cut.result.0.now (codes "@") ≡ false = cc in
      lines_more c.args.lines.now c.lines.line-index _ c.args.job.now c.lines.is_of_job c.if-eq.is_of_job c.cut.result.0.now
      (argument_names c.lines.command) (argument_names c.if-eq.command) _ c.lines-test.true c.cut.ensures.first at
      w.is_of_job-is w.if-is_of_job.true (ap argument_names w.command-is ∙ w.in_ok-command.ensures) c.lines.invariant
  | else-eq+else-is_of_job w ↦
      let at : bytes_eq c.cut.result.0.now (codes "@") ≡ false = cc in
      lines_none c.args.lines.now c.lines.line-index _ c.args.job.now c.lines.is_of_job c.if-eq.is_of_job c.cut.result.0.now
      (argument_names c.lines.command) (argument_names c.if-eq.command) _ c.lines-test.true c.cut.ensures.first at
      w.is_of_job-is w.if-is_of_job.false (ap argument_names w.command-is) c.lines.invariant
]

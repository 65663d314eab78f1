use Rattle.hashbag_run_lib.proofs.ExecutionLemmas.{answered}
use Rattle.hashbag_run_lib.proofs.execute.execute.Goals as goal

pub returns-in-Ok-clause-run : goal.returns-in-Ok-clause-run
returns-in-Ok-clause-run g c =
    answered _ _ _ _ c.in-Ok.text.items c.answer-answer.result c.send.result c.in-Ok.ensures.bytes c.in-Ok.ensures.end (rw c.as_slice.ensures.value at c.answer-answer.ensures) (rw (c.text.ensures, c.status.ensures) at c.send.ensures)

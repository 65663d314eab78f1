use Rattle.hashbag_run_lib.proofs.CommandLemmas.{word_read, word_stopped}
use Rattle.hashbag_run_lib.proofs.lines.numbers.Goals as goal

pub returns-in-None : goal.returns-in-None
returns-in-None c = word_stopped c.args.words.now c.loop-word.word-index _ c.loop-word.numbers.items c.loop-word-test.true c.loop-word.invariant c.in-None.ensures

pub loop-word-preserved : goal.loop-word-preserved
loop-word-preserved c = rw c.in_ok-push-in-Some.ensures.items (word_read c.args.words.now c.loop-word.word-index _ c.loop-word.numbers.items c.in-Some.n c.loop-word-test.true c.loop-word.invariant c.in-Some.ensures)

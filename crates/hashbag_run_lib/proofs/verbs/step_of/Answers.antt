use Rattle.hashbag_run_lib.proofs.CommandLemmas.{no_text_no_verb}
use Rattle.hashbag_run_lib.proofs.verbs.step_of.Goals as goal

pub returns-in_default : goal.returns-in_default
returns-in_default c = no_text_no_verb c.args.verb.now c.args.numbers.now c.in_default.ensures.cases.0

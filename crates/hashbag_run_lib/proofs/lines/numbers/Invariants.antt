use Rattle.std.proofs.Common.{map}
use Rattle.hashbag_run_lib.proofs.CommandLemmas.{HasRead}
use Rattle.hashbag_run_lib.proofs.lines.numbers.Given as goal

abbrev pub invariant-loop-word : goal.invariant-loop-word
invariant-loop-word l = HasRead (map (λ w. w.now) l.words) l.word-index l.numbers.items

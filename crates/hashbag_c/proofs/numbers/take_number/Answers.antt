use Rattle.std.proofs.Common.{nat_eq, sym}
use Rattle.hashbag_c.proofs.TakeLemmas.{none_stored}
use Rattle.hashbag_c.proofs.numbers.take_number.Goals as goal

pub returns-in-None-clause-before : goal.returns-in-None-clause-before
returns-in-None-clause-before c = sym (none_stored (nat_eq c.args.value) c.args.bag.now.items c.in-None.ensures.taken)

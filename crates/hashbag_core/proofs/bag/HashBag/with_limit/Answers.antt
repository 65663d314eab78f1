use Rattle.std.proofs.Common.{rules}
use Rattle.hashbag_core.specs.Held.{no_slots_after_building}
use Rattle.hashbag_core.proofs.HeldLemmas.{tables_from}
use Rattle.hashbag_core.proofs.bag.HashBag.with_limit.Goals as goal

pub returns-clause-slots : goal.returns-clause-slots
returns-clause-slots g c = tables_from c.new.result.tables (no_slots_after_building 0) c.new.ensures.newer c.new.ensures.waiting c.new.ensures.older c.new.ensures.built

pub invariant_of-result : goal.invariant_of-result
invariant_of-result g c = search rules

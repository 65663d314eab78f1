use Rattle.std.proofs.Common.{◌≡◌, ◌+◌, ◌≤◌, length, arith, sym, ◌∙◌}
use Rattle.hashbag_table.specs.Entries.{count_of}
use Rattle.hashbag_core.specs.Bag.{occurrences}
use Rattle.hashbag_core.specs.Occurrences.{count}
use Rattle.hashbag_core.proofs.OccurrenceLemmas.{count_occurrences, absent_from_count, new_occurrences, tally_added}
use Rattle.std.proofs.lemmas.Bool.{false≢true}
use Rattle.hashbag_core.proofs.HeldLemmas.{held_by}
use Rattle.hashbag_core.proofs.KeyLemmas.{inserts_stored}
use Rattle.hashbag_core.proofs.bag.HashBag.insert_new.Goals as goal

pub insert_new-requires-clause-absent : goal.insert_new-requires-clause-absent
insert_new-requires-clause-absent g c =
    let none : count_of g.T.PartialEq.eq c.args.value c.self.inside.table.entries ≡ 0 = sym (count_occurrences g.met.T.Eq.laws c.args.value c.self.inside.table.entries c.self.invariant.counted.distinct) ∙ (rw (← c.self.view_is) at c.requires.absent) in
    absent_from_count g.met.T.Eq.laws c.args.value c.self.inside.table.entries c.self.invariant.counted none

pub invariant_of-self-2 : goal.invariant_of-self-2
invariant_of-self-2 g c =
    let fits : length (occurrences c.self.inside.table.entries) + c.args.n ≤ c.self.inside.most = rw (← c.self.view_is) at c.requires.fits in
    let sum = c.self.invariant.sum in
    let none : count g.T.PartialEq.eq c.args.value (occurrences c.self.inside.table.entries) ≡ 0 = rw (← c.self.view_is) at c.requires.absent in
    tally_added g.met.T.Eq.laws c.args.value c.args.n c.self.inside.table.entries c.insert_new.new.self.entries c.self.inside.len c.self.invariant c.insert_new.ensures.counted (omega arith)
    (new_occurrences g.met.T.Eq.laws c.args.value c.args.n c.self.inside.table.entries c.insert_new.new.self.entries c.self.invariant.counted none c.in_ok-insert_new.ensures.stored.map.means)

pub returns-in_err-insert_new-clause-takes : goal.returns-in_err-insert_new-clause-takes
returns-in_err-insert_new-clause-takes g c = λ some. absurd (false≢true (c.in_err-insert_new.ensures.fails.takes (rw (← c.self.view_is) at some)))

pub returns-clause-inserted : goal.returns-clause-inserted
returns-clause-inserted g c =
    let none : count g.T.PartialEq.eq c.args.value (occurrences c.self.inside.table.entries) ≡ 0 = rw (← c.self.view_is) at c.requires.absent in
    rw (← c.self.view_is) (inserts_stored g.met.T.Eq.laws c.args.value c.args.n c.self.inside.len c.self.inside.table c.insert_new.new.self c.requires.positive none c.self.invariant (invariant_of-self-2 g c) c.in_ok-insert_new.ensures.stored
    (held_by g.T.PartialEq.eq _ _ c.show_invariant.ensures.entries c.insert_new.ensures.counted))

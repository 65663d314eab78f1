use Rattle.std.proofs.Common.{arith}
use Rattle.hashbag_core.proofs.CallerLemmas.{count_inserted_any}
use Rattle.hashbag_match_lib.proofs.TallyLemmas.{one_with_none, one_with_number}
use Rattle.hashbag_match_lib.proofs.tally.Tally.add.Goals as goal

pub returns-in-Ok-clause-added : goal.returns-in-Ok-clause-added
returns-in-Ok-clause-added g c = λ L h.
    let old = c.args.self.now in
    one_with_none g.T.PartialEq.eq L c.args.article c.args.number old.counts old.zeros c.insert.new.self c.if-number-eq0.true
    (λ v. count_inserted_any g.met.T.Eq.laws old.zeros c.insert.new.self v c.args.article 1 c.in-Ok.ensures.inserted.added) h

pub returns-clause-added : goal.returns-clause-added
returns-clause-added g c = λ L h.
    let old = c.args.self.now in
    let inserted = c.in_ok-insert_many.ensures.inserted in
    one_with_number g.T.PartialEq.eq L c.args.article c.args.number old.counts c.insert_many.new.self old.zeros (omega arith)
    (λ v. count_inserted_any g.met.T.Eq.laws old.counts c.insert_many.new.self v c.args.article c.args.number inserted.added)
    inserted.len inserted.added.limit inserted.added.bag.fits h

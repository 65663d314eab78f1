use Rattle.hashbag_core.proofs.CallerLemmas.{count_kept}
use Rattle.hashbag_match_lib.proofs.TallyLemmas.{same_tally}
use Rattle.hashbag_match_lib.proofs.tally.Tally.finish_carry.Goals as goal

-- carrying moves no occurrence
pub returns-clause-same : goal.returns-clause-same
returns-clause-same g c = λ L h.
    let laws = g.met.T.Eq.laws in
    let old = c.args.self.now in
    same_tally g.T.PartialEq.eq L old.counts c.finish_carry.new.self old.zeros c.finish_carry-2.new.self
    (λ v. count_kept laws old.counts c.finish_carry.new.self v c.finish_carry.ensures.items)
    (λ v. count_kept laws old.zeros c.finish_carry-2.new.self v c.finish_carry-2.ensures.items)
    c.finish_carry.ensures.len c.finish_carry.ensures.items.limit h

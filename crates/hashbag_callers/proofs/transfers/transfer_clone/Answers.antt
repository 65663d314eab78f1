use Rattle.std.proofs.Common.{◌≡◌, ◌+◌, ◌∙◌, ℕ, Bool, cond, ap, arith}
use Rattle.hashbag.specs.Occurrences.{count}
use Rattle.hashbag.proofs.CallerLemmas.{count_inserted_any, count_moved}
use Rattle.hashbag_callers.proofs.transfers.transfer_clone.Goals as goal

pub returns-in-Ok-insert_many-clause-sum : goal.returns-in-Ok-insert_many-clause-sum
returns-in-Ok-insert_many-clause-sum g c = λ w.
    count_moved g.met.T.Eq.laws c.args.from.now c.remove_up_to.new.self c.args.to.now c.insert_many.new.self w c.args.value.now c.in-Ok.copy c.args.n (c.requires.equal _ c.in-Ok.ensures.cases) (omega (arith, c.contains.ensures.count)) c.remove_up_to.ensures.fewer.left c.in-Ok-insert_many.ensures.inserted.added

pub returns-in-Ok-insert_many-clause-moved : goal.returns-in-Ok-insert_many-clause-moved
returns-in-Ok-insert_many-clause-moved g c =
    let value = c.args.value.now in
    count_inserted_any g.met.T.Eq.laws c.args.to.now c.insert_many.new.self value c.in-Ok.copy c.args.n c.in-Ok-insert_many.ensures.inserted.added
    ∙ ap (λ (b : Bool). count g.T.PartialEq.eq value c.args.to.now.items + cond b c.args.n 0) (c.requires.equal _ c.in-Ok.ensures.cases)

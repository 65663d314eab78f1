use Rattle.std.proofs.Common.{refl}
use Rattle.hashbag_core.specs.Extends.{Once}
use Rattle.hashbag_core.proofs.ExtendLemmas.{handed_on}
use Rattle.hashbag_core.proofs.InsertLemmas.{none_yet, one_more, all_went, some_went}
use Rattle.hashbag_core.proofs.bag.HashBag.extend.Goals as goal

pub loop-item-init : goal.loop-item-init
loop-item-init g c = none_yet g.T.PartialEq.eq Once c.args.self.now c.len-len.ensures.bag

pub loop-item-preserved : goal.loop-item-preserved
loop-item-preserved g c =
    one_more g.T.PartialEq.eq Once c.args.self.now c.loop-item.self c.insert_within.new.self c.loop-item.yielded c.in-Some.item (c.in-Some.item, 1) c.loop-item.invariant refl c.in_ok-insert_within.ensures.inserted

pub returns-clause-all : goal.returns-clause-all
returns-clause-all g c =
    all_went g.T.PartialEq.eq Once c.loop-item.yielded c.loop-item.invariant (c.next.new.self, (c.loop-item.item-iterator, rw (← c.into_iter-item-iterator.ensures.into_iter_gives) c.loop-item.yielded_by, c.in-None.ensures.steps))

pub returns-in_err-insert_within-clause-fails : goal.returns-in_err-insert_within-clause-fails
returns-in_err-insert_within-clause-fails g c = handed_on c.from_residual.result c.in_err-insert_within.field-0.0 _ _ (λ x is. cc) c.from_residual.ensures.1
    (some_went g.T.PartialEq.eq Once c.loop-item.self c.loop-item.yielded c.in-Some.item c.next.new.self c.loop-item.invariant
    (c.loop-item.item-iterator, rw (← c.into_iter-item-iterator.ensures.into_iter_gives) c.loop-item.yielded_by, c.in-Some.ensures.steps) c.in_err-insert_within.ensures.err c.in_err-insert_within.ensures.fails)

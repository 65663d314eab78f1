use Rattle.std.proofs.Common.{refl}
use Rattle.hashbag_core.specs.Extends.{AsItIs}
use Rattle.hashbag_core.proofs.ExtendLemmas.{handed_on}
use Rattle.hashbag_core.proofs.InsertLemmas.{none_yet, one_more, all_went, some_went}
use Rattle.hashbag_core.proofs.bag.HashBag.extend_many.Goals as goal

pub loop-value-init : goal.loop-value-init
loop-value-init g c = none_yet g.T.PartialEq.eq AsItIs c.args.self.now c.len-len.ensures.bag

pub loop-value-preserved : goal.loop-value-preserved
loop-value-preserved g c =
    one_more g.T.PartialEq.eq AsItIs c.args.self.now c.loop-value.self c.insert_within.new.self c.loop-value.yielded (c.in-Some.value, c.in-Some.n) (c.in-Some.value, c.in-Some.n) c.loop-value.invariant refl c.in_ok-insert_within.ensures.inserted

pub returns-clause-all : goal.returns-clause-all
returns-clause-all g c =
    all_went g.T.PartialEq.eq AsItIs c.loop-value.yielded c.loop-value.invariant (c.next.new.self, (c.loop-value.value-iterator, rw (← c.into_iter-value-iterator.ensures.into_iter_gives) c.loop-value.yielded_by, c.in-None.ensures.steps))

pub returns-in_err-insert_within-clause-fails : goal.returns-in_err-insert_within-clause-fails
returns-in_err-insert_within-clause-fails g c = handed_on c.from_residual.result c.in_err-insert_within.field-0.0 _ _ (λ x is. cc) c.from_residual.ensures.1
    (some_went g.T.PartialEq.eq AsItIs c.loop-value.self c.loop-value.yielded (c.in-Some.value, c.in-Some.n) c.next.new.self c.loop-value.invariant
    (c.loop-value.value-iterator, rw (← c.into_iter-value-iterator.ensures.into_iter_gives) c.loop-value.yielded_by, c.in-Some.ensures.steps) c.in_err-insert_within.ensures.err c.in_err-insert_within.ensures.fails)

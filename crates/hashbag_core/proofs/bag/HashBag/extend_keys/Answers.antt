use Rattle.std.proofs.Common.{refl}
use Rattle.hashbag_core.specs.Keys.{NamedOnce}
use Rattle.hashbag_core.proofs.ExtendLemmas.{handed_on}
use Rattle.hashbag_core.proofs.InsertLemmas.{none_yet, one_more, all_went, some_went}
use Rattle.hashbag_core.proofs.bag.HashBag.extend_keys.Goals as goal

pub loop-key-init : goal.loop-key-init
loop-key-init g c = none_yet g.T.PartialEq.eq (NamedOnce g.Q.Key.names) c.args.self.now c.len-len.ensures.bag

pub loop-key-preserved : goal.loop-key-preserved
loop-key-preserved g c =
    let inserted = c.in_ok-insert_key.ensures.inserted in
    one_more g.T.PartialEq.eq (NamedOnce g.Q.Key.names) c.args.self.now c.loop-key.self c.insert_key.new.self c.loop-key.yielded c.in-Some.key (inserted.0, 1) c.loop-key.invariant (inserted.1, refl) inserted.2

pub returns-clause-all : goal.returns-clause-all
returns-clause-all g c =
    all_went g.T.PartialEq.eq (NamedOnce g.Q.Key.names) c.loop-key.yielded c.loop-key.invariant (c.next.new.self, (c.loop-key.key-iterator, rw (← c.into_iter-key-iterator.ensures.into_iter_gives) c.loop-key.yielded_by, c.in-None.ensures.steps))

pub returns-in_err-insert_key-clause-fails : goal.returns-in_err-insert_key-clause-fails
returns-in_err-insert_key-clause-fails g c = handed_on c.from_residual.result c.in_err-insert_key.field-0.0 _ _ (λ x is. cc) c.from_residual.ensures.1
    (some_went g.T.PartialEq.eq (NamedOnce g.Q.Key.names) c.loop-key.self c.loop-key.yielded c.in-Some.key c.next.new.self c.loop-key.invariant
    (c.loop-key.key-iterator, rw (← c.into_iter-key-iterator.ensures.into_iter_gives) c.loop-key.yielded_by, c.in-Some.ensures.steps) c.in_err-insert_key.ensures.err c.in_err-insert_key.ensures.fails)

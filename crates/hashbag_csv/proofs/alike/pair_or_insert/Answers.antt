use Rattle.std.proofs.Common.{◌≡◌, ◌∙◌, Some, sym}
use Rattle.std.specs.HashMap.{get}
use Rattle.hashbag_csv.specs.Alike.{same_texts}
use Rattle.hashbag_csv.proofs.AlikeLemmas.{noted, paired}
use Rattle.hashbag_csv.proofs.alike.pair_or_insert.Goals as goal

-- next to the first article with these fields
pub returns-in_ok-push-in-Some-clause-near : goal.returns-in_ok-push-in-Some-clause-near
returns-in_ok-push-in-Some-clause-near g c = λ has near is.
    let found : get same_texts c.args.seen.now c.args.loose ≡ Some c.in-Some.first = sym c.get.ensures.value ∙ sym c.copied-first.ensures ∙ c.in-Some.is in
    (has, paired g.A.Article.fields c.args.seen.now c.args.pairs.now.items c.push.new.self.items c.args.loose c.in-Some.first c.args.article has near found is c.in_ok-push-in-Some.ensures.items)

-- the first article with these fields
pub returns-in_ok-insert-in-None-clause-near : goal.returns-in_ok-insert-in-None-clause-near
returns-in_ok-insert-in-None-clause-near g c = λ has near is.
    (noted g.A.Article.fields c.args.seen.now c.insert.new.self c.args.loose c.args.article has is c.in_ok-insert-in-None.ensures.updates, near)

use Rattle.std.proofs.lemmas.List.{nil_from_length}
use Rattle.hashbag_match_lib.proofs.CarriedLemmas.{none_along}
use Rattle.hashbag_match_lib.proofs.shown.fields_along.Goals as goal

-- nothing is carried along of any line
pub returns-then-is_empty : goal.returns-then-is_empty
returns-then-is_empty g c = λ K first. none_along g.A.PartialEq.eq g.A.Article.fields K c.args.firsts.now c.args.article.now (nil_from_length _ (c.is_empty.ensures.0 c.if-is_empty.true)) first

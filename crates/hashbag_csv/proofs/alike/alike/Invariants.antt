use Rattle.std.proofs.Common.{◌≤◌, length}
use Rattle.hashbag_csv.specs.Alike.{AreNear, HasLoosely}
use Rattle.hashbag_csv.proofs.alike.alike.Given as goal

-- the articles so far
abbrev pub invariant-articles : goal.invariant-articles
invariant-articles g l = record {
  seen : HasLoosely g.A.Article.fields l.seen;
  near : AreNear g.A.Article.fields l.pairs.items;
  few : length l.pairs.items ≤ l.most;
}

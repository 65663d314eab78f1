use Rattle.std.proofs.Common.{◌≡◌, refl, rules}
use Rattle.hashbag_script.specs.Rows.{quota}
use Rattle.hashbag_script.proofs.QuotaLemmas.{quota_congr, retained_of_bag}
use Rattle.hashbag_core.proofs.RetainLemmas.{answers_are}
use Rattle.hashbag_script.proofs.script.retain.Goals as goal

pub returns : goal.returns
returns g c =
    let done = c.retain.ensures.retained in
    let eq = g.T.PartialEq.eq in
    let list = c.args.list.now in
    let answers = answers_are _ (λ p. p.0.now ≡ list) (quota eq list) (λ p q x n a same t. search rules) _ done.walk done.returned done.last refl done.calls in
    record {
      left = retained_of_bag g.met.T.Eq.laws (quota eq list) (quota_congr g.met.T.Eq.laws list) c.args.bag.now c.retain.new.self done.walk done.returned c.len-len.ensures.bag done.set_walk answers done.left;
      tables = c.retain.ensures.in_place;
    }

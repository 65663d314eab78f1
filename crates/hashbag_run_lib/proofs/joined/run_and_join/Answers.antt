use Rattle.std.proofs.lemmas.List.Sorted.{IsPermutation-refl}
use Rattle.hashbag.specs.Script.{run}
use Rattle.hashbag.proofs.JoinLemmas.{outer_none_zero}
use Rattle.hashbag_run_lib.proofs.joined.run_and_join.Goals as goal

pub returns-clause-joined : goal.returns-clause-joined
returns-clause-joined g c =
    let eq = g.T.PartialEq.eq in
    let first = c.in_ok-run_pair.ensures.first in
    let second = c.in_ok-run_pair.ensures.second in
    let joins = c.in_ok-joins.ensures in
    let copies = c.in_ok-copied.ensures in
    let a = c.run_pair.new.a.items in
    let b = c.run_pair.new.b.items in
    let steps_a = c.args.steps_a.items in
    let steps_b = c.args.steps_b.items in
    record {
      outer = λ X Y in_a in_b. rw copies.outer (joins.outer (run eq c.args.a.now.most X steps_a).0 (run eq c.args.b.now.most Y steps_b).0 (first X in_a).means (second Y in_b).means);
      none_zero = rw copies.outer (outer_none_zero g.met.T.Eq.laws a b _ (joins.outer a b (IsPermutation-refl a) (IsPermutation-refl b)));
      difference = λ X Y in_a in_b. rw copies.difference (joins.difference (run eq c.args.a.now.most X steps_a).0 (run eq c.args.b.now.most Y steps_b).0 (first X in_a).means (second Y in_b).means);
      signed = λ X Y in_a in_b. rw copies.signed (joins.signed (run eq c.args.a.now.most X steps_a).0 (run eq c.args.b.now.most Y steps_b).0 (first X in_a).means (second Y in_b).means);
      not_in = λ X Y in_a in_b. rw copies.not_in (joins.not_in (run eq c.args.a.now.most X steps_a).0 (run eq c.args.b.now.most Y steps_b).0 (first X in_a).means (second Y in_b).means);
    }

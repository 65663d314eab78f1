use Rattle.std.proofs.Common.{[]}
use Rattle.hashbag_match_lib.proofs.CarriedLemmas.{none_yet}
use Rattle.hashbag_match_lib.proofs.files.read_lists.Goals as goal

-- what is carried along is added to an empty map, of the first file and then of the second one
pub returns-clause-lists : goal.returns-clause-lists
returns-clause-lists g c =
    let one = c.in_ok-ordered.ensures.list in
    let other = c.in_ok-delivered.ensures.list in
    let none = none_yet g.A.PartialEq.eq g.A.Article.fields c.with_hasher-firsts.result c.with_hasher-firsts.ensures.empty in
    record {
      first = one.text;
      second = other.text;
      given_first = one.given;
      given_second = other.given;
      ordered_lines = one.lines;
      delivered_lines = other.lines;
      readable_first = one.readable;
      readable_second = other.readable;
      carried = other.carried _ (one.carried [] none);
    }

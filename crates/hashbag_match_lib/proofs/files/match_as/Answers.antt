use Rattle.hashbag_match_lib.proofs.files.match_as.Goals as goal

-- the texts are those that the lists were read from
pub returns-clause-matched : goal.returns-clause-matched
returns-clause-matched g c =
    let read = c.in_ok-lists.ensures.lists in
    record {
      first = read.first;
      second = read.second;
      given_first = read.given_first;
      given_second = read.given_second;
      readable_first = read.readable_first;
      readable_second = read.readable_second;
      status_is = c.in_ok-match_lists.ensures.status _ _ read.ordered_lines read.delivered_lines;
      text_is = c.in_ok-match_lists.ensures.text _ _ _ read.ordered_lines read.delivered_lines read.carried;
    }

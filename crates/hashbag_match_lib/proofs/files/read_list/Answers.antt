use Rattle.hashbag_match_lib.proofs.files.read_list.Goals as goal

-- the text that was given is that of both the tally and what is carried along
pub returns-clause-list : goal.returns-clause-list
returns-clause-list g c =
    record {
      text = c.in_ok-text.text.items;
      given = c.in_ok-text.ensures;
      lines = rw c.deref.ensures.value at c.in_ok-tally.ensures.tally;
      readable = rw c.deref.ensures.value at c.in_ok-tally.ensures.readable;
      carried = rw (c.in_ok-in_file.ensures, c.deref-2.ensures.value) at c.carry_lines-carried.ensures;
    }

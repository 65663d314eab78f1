use Rattle.std.proofs.Common.{[]}
use Rattle.hashbag_ledger_db.proofs.unkept.entered_of.Goals as goal

-- the movements came behind none
pub returns : goal.returns
returns g c =
    let (start, begun, is) = c.in_ok-ledger.ensures in
    let (movements, named, come) = c.in_ok-enter_files.ensures in
    let all = come start [] is in
    record {
      start = start;
      begun = begun;
      movements = movements;
      named = named;
      rows = c.in_ok-end.ensures.balance start movements all;
      leaves = c.in_ok-end.ensures.leaves start movements all;
      refused = c.in_ok-end.ensures.refusals start movements all;
    }

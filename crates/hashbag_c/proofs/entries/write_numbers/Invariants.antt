use Rattle.std.proofs.Common.{◌≡◌, ◌≤◌, length, take, drop, map}
use Rattle.hashbag_c.proofs.entries.write_numbers.Given as goal

-- the first entries are written, and the others are left
abbrev pub invariant-loop-i : goal.invariant-loop-i
invariant-loop-i g l = let W = g.W.Entries.entries l.fn.walk in record {
  few : l.i ≤ length W;
  left : g.W.Entries.entries l.walk ≡ drop l.i W;
  values : take l.i l.values ≡ map (λ e. e.0) (take l.i W);
  counts : take l.i l.counts ≡ map (λ e. e.1) (take l.i W);
}

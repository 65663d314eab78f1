use Rattle.std.proofs.Common.{◌≡◌, ◌≤◌, length, take, drop, map, flat_map}
use Rattle.hashbag_c.specs.Reads.{ends_from, size_of}
use Rattle.hashbag_c.proofs.entries.write_texts.Given as goal

-- the first entries are written, and the others are left
abbrev pub invariant-loop-i : goal.invariant-loop-i
invariant-loop-i g l = let W = g.W.Entries.entries l.fn.walk in record {
  few : l.i ≤ length W;
  left : g.W.Entries.entries l.walk ≡ drop l.i W;
  size : l.from ≡ size_of (take l.i W);
  within : l.from ≤ length l.bytes;
  bytes : take l.from l.bytes ≡ flat_map (λ e. e.0) (take l.i W);
  ends : take l.i l.ends ≡ ends_from 0 (take l.i W);
  counts : take l.i l.counts ≡ map (λ e. e.1) (take l.i W);
}

use Rattle.std.proofs.Common.{◌≡◌, ℕ, List, min, drop}
use Rattle.std.specs.Str.{bytes_eq}
use Rattle.hashbag_core.specs.Occurrences.{count}
use Rattle.hashbag_c.specs.Pieces.{pieces_from}
use Rattle.hashbag_c.specs.Quotas.{quota}
use Rattle.hashbag_c.proofs.text_batches.allowed.Given as goal

-- the strings that are listed from this place on are in
abbrev pub invariant-loop-i : goal.invariant-loop-i
invariant-loop-i l = record {
  counts : (v : List ℕ) → count bytes_eq v l.made.items ≡ min (count bytes_eq v l.bag.items) (quota bytes_eq v (drop l.i (pieces_from 0 l.bytes l.ends)) (drop l.i l.most));
}

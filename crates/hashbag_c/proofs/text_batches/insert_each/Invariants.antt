use Rattle.std.proofs.Common.{◌≡◌, ◌+◌, ℕ, List, length, drop}
use Rattle.std.specs.Str.{bytes_eq}
use Rattle.hashbag_core.specs.Occurrences.{count}
use Rattle.hashbag_c.specs.Pieces.{pieces_from}
use Rattle.hashbag_c.proofs.text_batches.insert_each.Given as goal

-- what is in the bag and the pieces to come are all
abbrev pub invariant-loop-end : goal.invariant-loop-end
invariant-loop-end l = record {
  done : l.done ≡ l.end-index;
  len : length l.bag.items ≡ length l.fn.bag.items + l.end-index;
  counts : (v : List ℕ) → count bytes_eq v l.bag.items + count bytes_eq v (pieces_from l.from l.bytes (drop l.end-index l.ends)) ≡ count bytes_eq v l.fn.bag.items + count bytes_eq v (pieces_from 0 l.bytes l.ends);
}

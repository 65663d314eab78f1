use Rattle.std.proofs.Common.{◌≡◌, ◌+◌, ◌≤◌, ℕ, List, [], length, drop}
use Rattle.std.specs.List.{slice_range}
use Rattle.std.specs.Str.{bytes_eq}
use Rattle.hashbag_core.specs.Occurrences.{count}
use Rattle.hashbag_c.specs.Pieces.{split_from}
use Rattle.hashbag_c.proofs.text_batches.insert_pieces.Given as goal

-- what is in the bag, the piece that has begun and the pieces to come are all
abbrev pub invariant-loop-at : goal.invariant-loop-at
invariant-loop-at l = record {
  begun : l.from ≤ l.at;
  few : l.done ≤ l.at;
  len : length l.bag.items ≡ length l.fn.bag.items + l.done;
  counts : (v : List ℕ) → count bytes_eq v l.bag.items + count bytes_eq v (split_from l.separator (slice_range l.bytes l.from l.at) (drop l.at l.bytes)) ≡ count bytes_eq v l.fn.bag.items + count bytes_eq v (split_from l.separator [] l.bytes);
}

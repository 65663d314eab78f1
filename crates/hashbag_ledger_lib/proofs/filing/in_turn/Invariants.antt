use Rattle.std.proofs.Common.{◌≡◌, ◌++◌, length}
use Rattle.std.specs.Vec.Iter.{into_iter_items, into_iter_len}
use Rattle.hashbag_ledger_lib.specs.Batches.{all_of}
use Rattle.hashbag_ledger_lib.proofs.filing.in_turn.Given as goal

-- the movements so far, and those that are to come
abbrev pub invariant-loop-file : goal.invariant-loop-file
invariant-loop-file l = record {
  long : into_iter_len l.file-iterator ≡ length (into_iter_items l.file-iterator);
  whole : l.all.items ++ all_of (into_iter_items l.file-iterator) ≡ all_of (into_iter_items l.initial.file-iterator);
}

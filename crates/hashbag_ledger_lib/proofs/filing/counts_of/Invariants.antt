use Rattle.std.proofs.Common.{◌≡◌, map, take, vec_len}
use Rattle.hashbag_ledger_lib.proofs.filing.counts_of.Given as goal

-- the files so far
abbrev pub invariant-loop-file : goal.invariant-loop-file
invariant-loop-file l = l.counts.items ≡ map (λ file. vec_len file) (take l.file-index l.files)

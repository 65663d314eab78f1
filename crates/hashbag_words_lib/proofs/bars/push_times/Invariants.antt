use Rattle.std.proofs.Common.{◌≡◌, ◌++◌, replicate}
use Rattle.hashbag_words_lib.proofs.bars.push_times.Given as goal

-- the bytes so far are appended
abbrev pub invariant-times : goal.invariant-times
invariant-times l = l.text.items ≡ l.fn.text.items ++ replicate l.i l.byte

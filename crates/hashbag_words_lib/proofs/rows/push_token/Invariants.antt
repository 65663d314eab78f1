use Rattle.std.proofs.Common.{◌≡◌, ◌++◌, take}
use Rattle.hashbag_words_lib.specs.Rows.{escaped}
use Rattle.hashbag_words_lib.proofs.rows.push_token.Given as goal

-- the bytes so far are appended
abbrev pub invariant-loop-byte : goal.invariant-loop-byte
invariant-loop-byte l = l.text.items ≡ l.fn.text.items ++ escaped (take l.byte-index l.token)

use Rattle.std.proofs.Common.{◌≡◌, false, drop, Some}
use Rattle.hashbag_words_lib.specs.Rows.{resumed, unescaped}
use Rattle.hashbag_words_lib.proofs.rows.unescape.Given as goal

-- what is to come goes on from what has been read
abbrev pub invariant-loop-byte : goal.invariant-loop-byte
invariant-loop-byte l = unescaped false l.written ≡ resumed l.token.items (Some l.is_marked) (drop l.byte-index l.written)

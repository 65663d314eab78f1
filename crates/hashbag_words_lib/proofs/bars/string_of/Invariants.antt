use Rattle.std.proofs.Common.{◌≡◌, ◌++◌, drop, string_bytes, encode_utf8_all}
use Rattle.hashbag_words_lib.proofs.bars.string_of.Given as goal

-- with the characters that are left the text becomes that of all
abbrev pub invariant-loop-c : goal.invariant-loop-c
invariant-loop-c l = string_bytes l.text ++ encode_utf8_all (drop l.c-index l.name) ≡ encode_utf8_all l.name

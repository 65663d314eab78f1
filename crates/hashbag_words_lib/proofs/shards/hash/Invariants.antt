use Rattle.std.proofs.Common.{◌≡◌, drop}
use Rattle.hashbag_words_lib.specs.Shards.{fnv, fnv_from}
use Rattle.hashbag_words_lib.proofs.shards.hash.Given as goal

-- with the bytes that are left the hash becomes that of all
abbrev pub invariant-loop-byte : goal.invariant-loop-byte
invariant-loop-byte l = fnv_from l.hash (drop l.byte-index l.text) ≡ fnv l.text

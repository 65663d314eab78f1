-- Shards: parts of all tokens, by a hash of the token.
use Rattle.std.specs.Prelude.{ℕ, ◌*◌, ◌%◌, Bool, true, List, [], ◌∷◌, nat_eq, nat_lt, ◌&&◌, bit_xor, Option, None, Some}
use Rattle.hashbag_words_lib.specs.declared.shards.Shard.{Shard}

-- one step of FNV-1a: exclusive or with the byte, then the product with the prime, modulo 2^64
abbrev pub fnv_step : ℕ → ℕ → ℕ
fnv_step hash byte = (bit_xor hash byte * 1099511628211) % 18446744073709551616

-- FNV-1a of these bytes, begun with this hash
abbrev pub fnv_from : ℕ → List ℕ → ℕ
fnv_from hash [] = hash
fnv_from hash (byte ∷ bytes) = fnv_from (fnv_step hash byte) bytes

-- FNV-1a of 64 bits
abbrev pub fnv : List ℕ → ℕ
fnv bytes = fnv_from 14695981039346656037 bytes

-- the shard has the text. So for each n > 0 exactly one of the shards 0 to n - 1 has it
abbrev pub is_in : Shard → List ℕ → Bool
is_in shard text = nat_lt 0 shard.of && nat_eq (fnv text % shard.of) shard.index

-- the text is shown: the shard has it, or no shard is given
abbrev pub is_in_shard : Option Shard → List ℕ → Bool
is_in_shard None text = true
is_in_shard (Some shard) text = is_in shard text

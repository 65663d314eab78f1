-- The hash of a value under a state.
use Rattle.std.specs.Prelude.{ℕ}
use Rattle.std.specs.List.{fold}
use Rattle.std.specs.Hash.{HashWrites}
use Rattle.std.specs.declared.hash.Hasher as hasher
use Rattle.std.specs.declared.hash.BuildHasher as builder

-- the 64-bit hash of v: the state s builds a hasher, v is written to the hasher as `writes` says, and the hasher finishes
unfoldable pub hash_under : {T S H : Type 0} → (T → HashWrites) → builder.Ghosts S H → hasher.Ghosts H → S → T → ℕ
hash_under writes b h s v = h.finish (fold h.write (b.build_hasher s) (writes v))

-- What is fed alike has one hash.
use Rattle.std.proofs.Common.{◌≡◌, ℕ, Bool, true, sym, ap, ◌∙◌}
use Rattle.std.specs.List.{fold}
use Rattle.std.specs.Hash.{HashWrites}
use Rattle.std.specs.declared.hash.Hasher as hasher
use Rattle.std.specs.declared.hash.BuildHasher as builder
use Rattle.hashbag_slots.specs.Hashing.{hash_under}

module _ {T Q S H : Type 0} (writes : T → HashWrites) (asks : Q → HashWrites) (b : builder.Ghosts S H) (h : hasher.Ghosts H) (s : S) where
  pub fed_alike : (v : T) (key : Q) → writes v ≡ asks key → hash_under writes b h s v ≡ hash_under asks b h s key
  unfolding hash_under
  fed_alike v key e = ap (λ us. h.finish (fold h.write (b.build_hasher s) us)) e

  -- what a key names has the key's hash
  pub hash_named : (key : Q) (test : T → Bool) → ((v : T) → test v ≡ true → writes v ≡ asks key) → (hash : ℕ) → hash ≡ hash_under asks b h s key → (v : T) → test v ≡ true → hash_under writes b h s v ≡ hash
  hash_named key test law hash is v passes = fed_alike v key (law v passes) ∙ sym is

pub hash_alike : {T S H : Type 0} (writes : T → HashWrites) (b : builder.Ghosts S H) (h : hasher.Ghosts H) (s : S) (v w : T) → writes v ≡ writes w → hash_under writes b h s v ≡ hash_under writes b h s w
hash_alike writes b h s v w e = fed_alike writes writes b h s v w e

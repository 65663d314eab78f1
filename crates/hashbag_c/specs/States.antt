-- The hash states of bags of numbers.
use Rattle.std.specs.Prelude.{◌≡◌, ℕ, [], ◌++◌}
use Rattle.core.specs.Hash.FoldHasher as folding
use Rattle.core.specs.Hash as fed
use Rattle.core.specs.List.{fold}
use Rattle.hashbag_core.specs.Bag.{Bag}
use Rattle.hashbag_c.specs.declared.state.State.{State}

-- the state of two keys: each hasher begins as if both keys had been written, the first one first
abbrev pub keyed_state : ℕ → ℕ → State
keyed_state key0 key1 = record { initial = fold folding.write folding.initial (fed.u64 key0 ++ fed.u64 key1) }

-- a bag hashes under these keys
abbrev pub HashesUnder : {T : Type 0} → ℕ → ℕ → Bag T State → Type 0
HashesUnder key0 key1 bag = bag.hasher ≡ keyed_state key0 key1

-- a bag is empty, has this limit, and hashes under these keys
abbrev pub IsEmptyUnder : {T : Type 0} → ℕ → ℕ → ℕ → Bag T State → Type 0
IsEmptyUnder most key0 key1 bag = (bag.items ≡ []) × (bag.most ≡ most) × HashesUnder key0 key1 bag

-- How an insertion by a key changes a bag. `names` is a test: a value passes it if the key names it. All values that pass are equal.
use Rattle.std.specs.Prelude.{◌≡◌, ℕ, ◌+◌, ◌<◌, ◌≤◌, Bool, List, length, Option, IsTrue}
use Rattle.hashbag_core.specs.declared.bag.BagError.{BagError}
use Rattle.hashbag_core.specs.declared.bag.BagError.TheVariants.{Memory, TooMany, BelowTotal}
use Rattle.hashbag_core.specs.Bag.{Bag}
use Rattle.hashbag_core.specs.Inserts.{Inserts, InsertsUpTo}
use Rattle.hashbag_core.specs.Occurrences.{count_named}

module _ {T : Type 0} (names : T → Bool) where
  -- why an insertion of n of the value that a key names may fail, in a bag that means X and has the limit `most`. `TooMany`: the total would pass the
  -- limit. `Memory`: the total fits, n isn't 0, and no value that the key names is present
  abbrev pub MayFailNamed : ℕ → List T → ℕ → BagError → Type 0
  MayFailNamed most X n TooMany = most < length X + n
  MayFailNamed most X n Memory = (length X + n ≤ most) × (0 < n) × (count_named names X ≡ 0)
  MayFailNamed most X n BelowTotal = ⊥

-- a value that a key names is inserted once
abbrev pub NamedOnce : {T Q : Type 0} → (Q → T → Bool) → Q → T × ℕ → Type 0
NamedOnce names key p = IsTrue (names key p.0) × (p.1 ≡ 1)

-- inserting once the value that a key names may fail with e
abbrev pub MayFailKey : {T S Q : Type 0} → (Q → T → Bool) → Bag T S → Q → BagError → Type 0
MayFailKey names bag key e = MayFailNamed (names key) bag.most bag.items 1 e

-- values that the keys of an iterator name were inserted in turn, up to a key that failed
abbrev pub KeysUpTo : {T S Q I : Type 0} → (T → T → Bool) → (Q → T → Bool) → (I → Option Q → I → Type 0) → I → Bag T S → Bag T S → BagError → Type 0
KeysUpTo eq names steps keys before after e = InsertsUpTo eq steps (NamedOnce names) (MayFailKey names) keys before after e

-- n of some value that the key names were inserted
abbrev pub InsertsNamed : {T S : Type 0} → (T → T → Bool) → (T → Bool) → ℕ → Bag T S → Bag T S → Type 0
InsertsNamed eq names n before after = (v : _) × IsTrue (names v) × Inserts eq v n before after

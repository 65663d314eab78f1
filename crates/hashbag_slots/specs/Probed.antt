-- What a probe along a path shows.
use Rattle.std.specs.Prelude.{ℕ, ⊤, Bool, length}
use Rattle.hashbag_slots.specs.declared.probe.Probed.{Probed}
use Rattle.hashbag_slots.specs.declared.probe.Probed.TheVariants.{Found, Absent, Full}
use Rattle.hashbag_slots.specs.Slots.{IsAbsent}
use Rattle.hashbag_slots.specs.Columns.{Columns, AreLiveTags}

-- if a value was found, P holds of its place
abbrev pub IfFound : Probed → (ℕ → Type 0) → Type 0
IfFound (Found p) P = P p
IfFound (Absent p) P = ⊤
IfFound Full P = ⊤

-- if a value is known to be absent, P holds of the place into which it is put
abbrev pub IfAbsent : Probed → (ℕ → Type 0) → Type 0
IfAbsent (Found p) P = ⊤
IfAbsent (Absent p) P = P p
IfAbsent Full P = ⊤

-- if no slot is free and the value is absent, P holds
abbrev pub IfFull : Probed → Type 0 → Type 0
IfFull (Found p) P = ⊤
IfFull (Absent p) P = ⊤
IfFull Full P = P

-- no slot holds a value that passes the test, and all slots on the path of a hash are Live
abbrev pub IsFull : {T : Type 0} → (T → Bool) → ℕ → Columns T → Type 0
IsFull test hash table = IsAbsent test table.slots × AreLiveTags hash table.tags (length table.tags)

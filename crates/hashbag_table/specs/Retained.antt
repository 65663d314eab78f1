-- How slots change by the numbers that a closure returns.
use Rattle.std.specs.Prelude.{◌≡◌, ℕ, ◌<◌, min, nat_lt, if◌then◌else◌, List, [], ◌∷◌, drop, length}
use denote.Ref.{Bor}
use denote.Param.Members.{Mut}
use Rattle.hashbag_slots.specs.declared.slots.Slot.{Slot}
use Rattle.hashbag_slots.specs.declared.slots.Slot.TheVariants.{Empty, Removed, Moved, Live}
use Rattle.hashbag_slots.specs.Slots.{slot_at}
use Rattle.hashbag_table.specs.Returned.{MayReturn}
use Rattle.hashbag_table.specs.Tables.{Tables}

-- a Live slot with the value v and the count n, after a was returned for v: the count is the lesser of n and a, or the slot is Removed if that is 0
abbrev pub live_retained : {T : Type 0} → T → ℕ → ℕ → Slot T
live_retained v n a = if nat_lt 0 (min a n) then Live v (min a n) else Removed

module _ {T : Type 0} where
  -- how the returned number a changes a slot. A slot that is not Live is unchanged
  abbrev pub slot_retained : ℕ → Slot T → Slot T
  slot_retained a Empty = Empty
  slot_retained a Removed = Removed
  slot_retained a Moved = Moved
  slot_retained a (Live v n) = live_retained v n a

  -- each slot follows by `slot_retained` from the slot at the same place, with some number. So no value is in another slot than before
  pub record RetainsSlots (old new : List (Slot T)) : Type 0 where
    pub same_length : length new ≡ length old
    pub each : (p : ℕ) → (a : ℕ) × (slot_at new p ≡ slot_retained a (slot_at old p))

  -- `RetainsSlots` holds of the newer slots and of the waiting slots. No table was built
  pub record RetainsTables (old new : Tables T) : Type 0 where
    pub newer : RetainsSlots old.newer new.newer
    pub waiting : RetainsSlots old.waiting new.waiting
    pub built : new.built ≡ old.built

module _ {F T : Type 0} (g : Mut F (Bor T × (ℕ × Unit {0})) ℕ) where
  -- f may turn the slot s into t, and become f'. If s is Live, f is called with its entry; else nothing changes
  abbrev pub LeavesSlot : F → Slot T → Slot T → F → Type 0
  LeavesSlot f Empty t f' = (t ≡ Empty) × (f ≡ f')
  LeavesSlot f Removed t f' = (t ≡ Removed) × (f ≡ f')
  LeavesSlot f Moved t f' = (t ≡ Moved) × (f ≡ f')
  LeavesSlot f (Live v n) t f' = (a : ℕ) × MayReturn g f (v, n) a f' × (t ≡ live_retained v n a)

  -- f, called with the entry of each Live slot in turn, may leave these slots, and become f'. Each call gets the closure as the previous call
  -- left it
  abbrev pub LeavesSlots : F → List (Slot T) → List (Slot T) → F → Type 0
  LeavesSlots f [] [] f' = f ≡ f'
  LeavesSlots f [] (t ∷ ts) f' = ⊥
  LeavesSlots f (s ∷ ss) [] f' = ⊥
  LeavesSlots f (s ∷ ss) (t ∷ ts) f' = (next : F) × LeavesSlot f s t next × LeavesSlots next ss ts f'

  -- f was called with the entry of each Live slot from the place `from` on, in the order of places, and became f'. The slots from there on are what
  -- the returned numbers left; the slots before are as they were
  pub record RetainsFrom (from : ℕ) (f : F) (old new : List (Slot T)) (f' : F) : Type 0 where
    pub same_length : length new ≡ length old
    pub before : (p : ℕ) → p < from → slot_at new p ≡ slot_at old p
    pub left : LeavesSlots f (drop from old) (drop from new) f'

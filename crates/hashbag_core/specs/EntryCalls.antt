-- What an entry is, and how its calls change the bag that it borrows: `and_modify` for any closure f.
use Rattle.std.specs.Prelude.{◌≡◌, ℕ, ◌+◌, ◌<◌, ◌≤◌, Bool, length, Result, Ok, IfOk}
use Rattle.std.specs.Borrow.{MutBor}
use Rattle.std.specs.Fn.{FnOnceReturnsAtMut}
use denote.Param.Members.{Once}
use Rattle.hashbag_core.specs.Bag.{Bag, IsBagOf, total_recounted}
use Rattle.hashbag_core.specs.declared.entry.Entry.{Entry}
use Rattle.hashbag_core.specs.declared.bag.BagError.{BagError}
use Rattle.hashbag_core.specs.declared.bag.BagError.TheVariants.{TooMany}
use Rattle.hashbag_core.specs.Held.{RecountsAs}
use Rattle.hashbag_core.specs.Inserts.{Inserts}
use Rattle.hashbag_core.specs.Occurrences.{count, recount}

module _ {T S H : Type 0} (eq : T → T → Bool) where
  -- how often the bag has the value that the entry was given
  abbrev pub entry_count : Entry T S H → ℕ
  entry_count e = count eq e.value e.bag.now.items

  -- the bag has the value that the entry was given
  abbrev pub IsOccupied : Entry T S H → Type 0
  IsOccupied e = 0 < entry_count e

  -- the bag doesn't have the value that the entry was given
  abbrev pub IsVacant : Entry T S H → Type 0
  IsVacant e = entry_count e ≡ 0

  -- if the entry is occupied, the count of its value is returned, and the bag is unchanged
  abbrev pub KeepsOccupied : Entry T S H → Result ℕ BagError → Bag T S → Type 0
  KeepsOccupied e r after = IsOccupied e → (r ≡ Ok (entry_count e)) × (after ≡ e.bag.now)

  -- if the entry is vacant and the call succeeds, n is returned, and the given value is inserted n times
  abbrev pub FillsVacant : ℕ → Entry T S H → Result ℕ BagError → Bag T S → Type 0
  FillsVacant n e r after = IsVacant e → IfOk r (λ k. (k ≡ n) × Inserts eq e.value n e.bag.now after)

  -- the entry is vacant, and n more would pass the limit of the bag
  abbrev pub IsVacantPast : ℕ → Entry T S H → Type 0
  IsVacantPast n e = IsVacant e × (e.bag.now.most < length e.bag.now.items + n)

  -- if the entry is occupied, only the slot of its value changed. The slot has the count that the value has in `after`
  abbrev pub RecountsOccupied : Entry T S H → Bag T S → Type 0
  RecountsOccupied e after = IsOccupied e → RecountsAs eq e.value e.bag.now after

module _ {T S : Type 0} (eq : T → T → Bool) where
  -- both bags have the same number of occurrences of values other than v
  abbrev pub KeepsOthers : T → Bag T S → Bag T S → Type 0
  KeepsOthers v before after = length after.items + count eq v before.items ≡ length before.items + count eq v after.items

module _ {T S : Type 0} (eq : T → T → Bool) {F : Type 0} (g : Once F (MutBor ℕ × Unit {0}) (Unit {0} × (MutBor ℕ × Unit {0}))) (f : F) (v : T) (bag : Bag T S) where
  -- f, called on the count of v, may leave n
  abbrev pub MayLeave : ℕ → Type 0
  MayLeave n = FnOnceReturnsAtMut g f (count eq v bag.items) tt n

  -- if v is absent, nothing changes. Else the count of v is what f left, and the stored instance stays
  pub record ChangesCount (after : Bag T S) : Type 0 where
    pub absent : count eq v bag.items ≡ 0 → after ≡ bag
    pub present : 0 < count eq v bag.items → (n : ℕ) × MayLeave n × (total_recounted eq v n bag ≤ bag.most) × IsBagOf eq bag (recount eq v n bag.items) after

  -- v is present, and with the count that f left the total would pass the bag's limit
  pub record PassesLimit : Type 0 where
    pub present : 0 < count eq v bag.items
    pub number : ℕ
    pub left : MayLeave number
    pub passes : bag.most < total_recounted eq v number bag

  -- the error is `TooMany`, and the total would pass the limit
  abbrev pub FailsPastLimit : BagError → Type 0
  FailsPastLimit e = (e ≡ TooMany) × PassesLimit

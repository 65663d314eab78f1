-- Changes as whole numbers with a sign.
use Rattle.std.specs.Prelude.{◌≡◌, ℕ, ◌+◌, ◌-◌, ◌^◌, ◌≤◌, ℤ, pos, negsuc, zero, suc}
use Rattle.hashbag_ledger_lib.specs.declared.movements.Change.{Change}
use Rattle.hashbag_ledger_lib.specs.declared.movements.Change.TheVariants.{In, Out}

-- the change of a row with this number: `Out` below 0, else `In`
abbrev pub change_at : ℤ → Change
change_at (pos n) = In n
change_at (negsuc n) = Out (n + 1)

-- the change as a row has it: `Out 0` is `In 0`
abbrev pub plain : Change → Change
plain (In n) = In n
plain (Out zero) = In 0
plain (Out (suc n)) = Out (suc n)

-- how many come in or go out
abbrev pub size : Change → ℕ
size (In n) = n
size (Out n) = n

-- n is the number that a row has for the change; the size of the change is at most 2^63-1
abbrev pub IsNumberOf : Change → ℤ → Type 0
IsNumberOf change n = (size change ≤ 2 ^ 63 - 1) × (change_at n ≡ plain change)

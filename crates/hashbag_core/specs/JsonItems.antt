-- Numbers and texts as JSON trees.
use Rattle.std.specs.Prelude.{ℕ, ◌<◌, ◌^◌, ℤ, pos, negsuc, nat_lt, if◌then◌else◌, Option, Some, None, option_and_then}
use Rattle.serde_json.specs.Data.{Data}
use Rattle.serde_json.specs.Find.{as_number, as_u64, as_i64}

-- n is a number that a `u64` can be
abbrev pub IsU64 : ℕ → Type 0
IsU64 n = n < 2 ^ 64

-- z is a number that an `i64` can be
abbrev pub IsI64 : ℤ → Type 0
IsI64 (pos n) = n < 2 ^ 63
IsI64 (negsuc n) = n < 2 ^ 63

-- the number that a tree is, none if it is no whole number or is below 0. A float is no whole number, not even 1.0
abbrev pub u64_of : Data → Option ℕ
u64_of d = option_and_then as_u64 (as_number d)

-- the signed number that a tree is, none if it is no whole number, or if it is 2 ^ 63 or more. A float is no whole number, not even 1.0
abbrev pub i64_of : Data → Option ℤ
i64_of d = option_and_then as_i64 (as_number d)

-- n if it is in the range of a `u64`, else none. The tree of a `Value` has no number out of that range
abbrev pub u64_within : ℕ → Option ℕ
u64_within n = if nat_lt n (2 ^ 64) then Some n else None

-- z if it is in the range of an `i64`, else none. The tree of a `Value` has no number out of that range
abbrev pub i64_within : ℤ → Option ℤ
i64_within (pos n) = if nat_lt n (2 ^ 63) then Some (pos n) else None
i64_within (negsuc n) = if nat_lt n (2 ^ 63) then Some (negsuc n) else None

-- the `u64` item that a tree is, none if it isn't one
abbrev pub u64_item : Data → Option ℕ
u64_item d = option_and_then u64_within (u64_of d)

-- the `i64` item that a tree is, none if it isn't one
abbrev pub i64_item : Data → Option ℤ
i64_item d = option_and_then i64_within (i64_of d)

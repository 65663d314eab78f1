-- What a block owns, and what the deed to a block owns, in the words of the logic of memory.
use Rattle.core.specs.Prelude.{◌≡◌, ℕ, ◌*◌, ◌^◌, ◌<◌, false, replicate}
use base.Fml.{Fml, fsep, flt}
use mir.Syntax.{Ty, ty_array}
use mir.Raw.{raw}
use denote.RattleType.{RattleType}
use denote.Memory.{lone}
use denote.RawPtr.{Ptr, room_for}
use Rattle.core.specs.Mem.Slots.Ownership.{bytes_of}
use Rattle.core.specs.Mem.Slots.{slots_ptr, slots_len, slots_filled}
use Rattle.core.specs.declared.slots.Slots.{Slots}

-- the type of a block of bytes for n values
abbrev pub block_of : RattleType → ℕ → Ty
block_of R n = raw (ty_array (lone R.mir) n)

-- n values take fewer than 2 ^ 63 bytes
abbrev pub FitsBlock : RattleType → ℕ → Type 0
FitsBlock R n = n * bytes_of R < 2 ^ 63

-- a block for n values at the address p, whose bytes mean nothing yet
abbrev pub block_owns : RattleType → Ptr → ℕ → Fml
block_owns R p n = fsep (flt (n * bytes_of R) (2 ^ 63)) (room_for (block_of R n) p)

-- memory at the address p with n places, which hold nothing
abbrev pub IsUnfilled : {X : Type 0} → Ptr → ℕ → Slots X → Type 0
IsUnfilled p n memory = (slots_ptr memory ≡ p) × (slots_len memory ≡ n) × (slots_filled memory ≡ replicate n false)

-- the deed to a block for n values at the address p: the right to free the block, which is the allocator's token t
abbrev pub deed_owns : (Ty → Ptr → Fml) → RattleType → Ptr → ℕ → Fml
deed_owns t R p n = t (block_of R n) p

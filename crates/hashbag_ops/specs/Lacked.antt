-- What one bag has and another lacks.
use Rattle.std.specs.Prelude.{ℕ, ◌<◌, ◌≤◌, Bool, List, length}
use Rattle.hashbag_core.specs.Bag.{Bag}
use Rattle.hashbag_core.specs.Joins.{IsNotIn}
use Rattle.hashbag_core.specs.JoinsLeft.{lacking}
use Rattle.hashbag_table.specs.Tables.{Tables, room}
use Rattle.hashbag_core.specs.Walks.{IsSetWalkOf}

-- Y lacks more than k distinct values of X
abbrev pub LacksMoreThan : {T : Type 0} → (T → T → Bool) → ℕ → List T → List T → Type 0
LacksMoreThan {T} eq k Y X = (M : List (T × ℕ)) → IsNotIn eq X Y M → k < length M

-- these tables have room for the values of W that Y lacks
abbrev pub HasRoomForAll : {T : Type 0} → (T → T → Bool) → List (T × ℕ) → List T → Tables T → Type 0
HasRoomForAll eq W Y tables = length (lacking eq Y W) ≤ room tables

-- these tables have room for the values of a bag that Y lacks
abbrev pub HasRoomForLacked : {T S : Type 0} → (T → T → Bool) → Bag T S → List T → Tables T → Type 0
HasRoomForLacked {T} eq bag Y tables = (W : List (T × ℕ)) → IsSetWalkOf eq bag W → length (lacking eq Y W) ≤ room tables

-- the bag `bag` has room for the values of `other` that it lacks
abbrev pub HasRoomForBag : {T S S2 : Type 0} → (T → T → Bool) → Bag T S → Bag T S2 → Type 0
HasRoomForBag eq other bag = HasRoomForLacked eq other bag.items bag.tables

-- for each set walk of `other`: if `bag` has room for the values in it that `bag` lacks, P holds
abbrev pub IfRoomForWalk : {T S S2 : Type 0} → (T → T → Bool) → Bag T S → Bag T S2 → Type 0 → Type 0
IfRoomForWalk {T} eq other bag P = (W : List (T × ℕ)) → IsSetWalkOf eq other W → HasRoomForAll eq W bag.items bag.tables → P

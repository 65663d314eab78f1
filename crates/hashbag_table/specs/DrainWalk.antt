-- What a `DrainWalk` still gives, and what becomes of the table that it empties.
use Rattle.std.specs.Prelude.{ℕ, List, []}
use Rattle.std.specs.Borrow.{Fml, GName, RattleType, MutBor, Array, usize, follows}
use Rattle.std.specs.HashMap.Lent.{HashMembers}
use Rattle.std.specs.declared.hash.Hasher as hasher
use Rattle.std.specs.declared.hash.BuildHasher as builder
use Rattle.hashbag_table.specs.declared.walk.DrainWalk.{DrainWalk}
use Rattle.hashbag_table.specs.contracts.table.Table.{the_row}
use Rattle.hashbag_table.specs.Table.{Table}

module _ {T : Type 0} where
  -- the entries that are still to come
  abbrev pub drain_rest : DrainWalk T → List (T × ℕ)
  drain_rest s = s.taken

  -- the name of the walk's loan of the table
  abbrev pub drain_name : DrainWalk T → GName
  drain_name s = s.table.ghost_name

-- the table with no entries and no slots, under the same state
abbrev pub emptied : {T S : Type 0} → Table T S → Table T S
emptied t = record { entries = []; hasher = t.hasher; tables = record { newer = []; waiting = []; older = 0; built = t.tables.built } }

-- once the loan of the walk s has ended, the table behind t is empty
abbrev pub empties : (T S H : RattleType) (key : HashMembers T.Denot) (b : builder.Ghosts S.Denot H.Denot) (w : hasher.Ghosts H.Denot) → MutBor (Table T.Denot S.Denot) → DrainWalk T.Denot → Fml
empties T S H key b w t s = follows (the_row T S H (record { eq = key.eq }) (record { hash_input = key.hash_input }) b w) (Array usize 0) t.ghost_name (drain_name s) (λ _. emptied t.now)

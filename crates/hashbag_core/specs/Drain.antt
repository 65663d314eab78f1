-- What a `Drain` still gives, and what becomes of the bag that it empties.
use Rattle.std.specs.Prelude.{ℕ, List, []}
use Rattle.std.specs.Borrow.{Fml, GName, RattleType, MutBor, Array, usize, follows}
use Rattle.std.specs.HashMap.Lent.{HashMembers}
use Rattle.std.specs.declared.hash.Hasher as hasher
use Rattle.std.specs.declared.hash.BuildHasher as builder
use Rattle.hashbag_table.specs.DrainWalk as table
use Rattle.hashbag_core.specs.declared.iters.Drain.{Drain}
use Rattle.hashbag_core.specs.contracts.bag.HashBag.{the_row}
use Rattle.hashbag_core.specs.Bag.{Bag}

module _ {T : Type 0} where
  -- the values with their counts that are still to come
  abbrev pub drain_rest : Drain T → List (T × ℕ)
  drain_rest s = table.drain_rest s.drained

  -- the name of the drain's loan of the bag
  abbrev pub drain_name : Drain T → GName
  drain_name s = table.drain_name s.drained

-- the bag with no occurrences and no slots, under the same state and with the same limit
abbrev pub emptied : {T S : Type 0} → Bag T S → Bag T S
emptied b = record { items = []; hasher = b.hasher; tables = record { newer = []; waiting = []; older = 0; built = b.tables.built }; most = b.most }

-- once the loan of the drain d has ended, the bag behind b is empty
abbrev pub empties : (T S H : RattleType) (key : HashMembers T.Denot) (s : builder.Ghosts S.Denot H.Denot) (w : hasher.Ghosts H.Denot) → MutBor (Bag T.Denot S.Denot) → Drain T.Denot → Fml
empties T S H key s w b d = follows (the_row T S H (record { eq = key.eq }) (record { hash_input = key.hash_input }) s w) (Array usize 0) b.ghost_name (drain_name d) (λ _. emptied b.now)

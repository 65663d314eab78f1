-- What a bag is once a loan of it is over.
use Rattle.std.specs.Prelude.{◌≡◌, ⊤, Bool, Result}
use Rattle.std.specs.Borrow.{Fml, RattleType, MutBor, follows_so, RestsIfErr}
use Rattle.std.specs.HashMap.Lent.{HashMembers}
use Rattle.std.specs.declared.hash.Hasher as hasher
use Rattle.std.specs.declared.hash.BuildHasher as builder
use mathlib.Core.Option.{none}
use Rattle.hashbag_core.specs.declared.bag.BagError.{BagError}
use Rattle.hashbag_core.specs.declared.entry.Entry.{Entry}
use Rattle.hashbag_core.specs.Bag.{Bag}
use Rattle.hashbag_core.specs.Held.{HasFewer}
use Rattle.hashbag_core.specs.contracts.bag.HashBag.{the_row}

module _ (T S H : RattleType) (key : HashMembers T.Denot) (build : builder.Ghosts S.Denot H.Denot) (hash : hasher.Ghosts H.Denot) where
  -- `HashBag<T, S>` as a type of the logic. It is built from the type T of the items, the type S of the hash state, and the type H of the state's
  -- hasher
  abbrev pub bag_row : RattleType
  bag_row = the_row T S H (record { eq = key.eq }) (record { hash_input = key.hash_input }) build hash

  -- once the loan is over, the bag that b borrows has lost one occurrence that passes the test of the key q, if there was one
  abbrev pub loses_one : {Q : Type 0} → MutBor (Bag T.Denot S.Denot) → (Q → T.Denot → Bool) → Q → Fml
  loses_one b names q = follows_so bag_row bag_row b.ghost_name none (λ _ _. ⊤) (HasFewer key.eq (names q) 1 b.now)

  -- if the call returns `Ok`, the returned entry goes on with the loan of e; if `Err`, the bag that e borrows is unchanged when the loan ends
  abbrev pub stays_if_err : Entry T.Denot S.Denot H.Denot → Result (Entry T.Denot S.Denot H.Denot) BagError → Fml
  stays_if_err e r = RestsIfErr bag_row e.bag (λ next. next.bag.ghost_name) r (λ n. n ≡ e.bag.now)

-- What calls change in a ledger, and what they return. The definitions hold for any list L that the ledger had at the beginning, and for any
-- movements ms that have come.
use Rattle.std.specs.Prelude.{◌≡◌, ℕ, ◌++◌, Bool, List, [], ◌∷◌, String}
use Rattle.std.specs.Global.{Global}
use Rattle.std.specs.declared.cmp.Ordering.{Ordering}
use Rattle.hashbag_csv.specs.Quantities.{IsBalance}
use Rattle.hashbag_ledger_lib.specs.declared.ledger.Ledger.{Ledger}
use Rattle.hashbag_ledger_lib.specs.declared.movements.Change.{Change}
use Rattle.hashbag_ledger_lib.specs.declared.movements.Movement.{Movement}
use Rattle.hashbag_ledger_lib.specs.declared.movements.Place.{Place}
use Rattle.hashbag_ledger_lib.specs.declared.movements.Refusal.{Refusal}
use Rattle.hashbag_ledger_lib.specs.Ledger.{in_the_end, refused_of, Leaves}
use Rattle.hashbag_ledger_lib.specs.Movements.{EntersFile}
use Rattle.hashbag_ledger_lib.specs.Settled.{listed, IsLedgerOf, IsPastWithin}

module _ {T : Type 0} (eq : T → T → Bool) where
  -- the new ledger has the movement m at the end: m was entered, or is among the refusals
  abbrev pub EntersMovement : {S H : Type 0} → Ledger T S H → Ledger T S H → Movement T → Type 0
  EntersMovement old new m =
      (L : List (T × ℕ)) (ms : List (Movement T)) → IsLedgerOf eq L ms old.refusals.items old.stock → IsLedgerOf eq L (ms ++ m ∷ []) new.refusals.items new.stock

  -- with the movement m, which is at the place, the total would pass the limit
  abbrev pub LedgerPassesLimitWith : {S H : Type 0} → Ledger T S H → Movement T → Place → Type 0
  LedgerPassesLimitWith ledger m place =
      (L : List (T × ℕ)) (ms : List (Movement T)) → IsLedgerOf eq L ms ledger.refusals.items ledger.stock → IsPastWithin eq ledger.stock.most L (ms ++ m ∷ []) place

  -- `balance` is the balance after all movements of the ledger
  abbrev pub IsBalanceOf : {S H : Type 0} → (T → T → Ordering) → Ledger T S H → List (T × ℕ) → Type 0
  IsBalanceOf cmp ledger balance =
      (L : List (T × ℕ)) (ms : List (Movement T)) → IsLedgerOf eq L ms ledger.refusals.items ledger.stock → IsBalance eq cmp (in_the_end eq (listed eq L) ms) balance

  -- `balance` is what the movements of the ledger leave of the list that it had at the beginning
  abbrev pub IsLeftBy : {S H : Type 0} → Ledger T S H → List (T × ℕ) → Type 0
  IsLeftBy ledger balance =
      (L : List (T × ℕ)) (ms : List (Movement T)) → IsLedgerOf eq L ms ledger.refusals.items ledger.stock → Leaves eq (listed eq L) ms (listed eq balance)

  -- `refusals` are the refusals among the movements of the ledger
  abbrev pub AreRefusalsOf : {S H : Type 0} → Ledger T S H → List (Refusal T) → Type 0
  AreRefusalsOf ledger refusals =
      (L : List (T × ℕ)) (ms : List (Movement T)) → IsLedgerOf eq L ms ledger.refusals.items ledger.stock → refusals ≡ refused_of eq (listed eq L) ms

-- the new ledger has the movements of a file at the end; `moved` is their content
abbrev pub EntersFileInto : {S H : Type 0} → ℕ → List (List ℕ × Change) → Ledger (String Global) S H → Ledger (String Global) S H → Type 0
EntersFileInto file moved old new = EntersFile file moved old.refusals.items old.stock new.refusals.items new.stock

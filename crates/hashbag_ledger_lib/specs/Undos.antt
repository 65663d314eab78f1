-- A batch that is taken back by its opposite movements.
use Rattle.std.specs.Prelude.{◌≡◌, ℕ, ◌+◌, ◌-◌, ◌^◌, ◌<◌, Bool, List, [], ◌∷◌, ◌++◌, String}
use Rattle.std.specs.declared.cmp.Ordering.{Ordering}
use Rattle.std.specs.Global.{Global}
use Rattle.std.specs.String.{string_eq}
use Rattle.hashbag_csv.specs.Quantities.{IsBalance}
use Rattle.hashbag_ledger_lib.specs.declared.movements.Change.{Change}
use Rattle.hashbag_ledger_lib.specs.declared.movements.Change.TheVariants.{In, Out}
use Rattle.hashbag_ledger_lib.specs.declared.movements.Movement.{Movement}
use Rattle.hashbag_ledger_lib.specs.declared.movements.Place.{Place}
use Rattle.hashbag_ledger_lib.specs.declared.rows.RowChange.{RowChange}
use Rattle.hashbag_ledger_lib.specs.Changes.{Rises, AreChanges}
use Rattle.hashbag_ledger_lib.specs.Entries.{entries_of}
use Rattle.hashbag_ledger_lib.specs.Ledger.{came, went, refused_of}
use Rattle.hashbag_ledger_lib.specs.Settled.{listed, IsPastWithin}
use Rattle.hashbag_ledger_lib.specs.declared.undoing.Undo.{Undo}
use Rattle.hashbag_ledger_lib.specs.declared.undoing.Undo.TheVariants.{Done, Refused}

module _ {T : Type 0} where
  -- the movements `later`; if the change of m is an `Out`, with the opposite of m before them
  abbrev pub coming_back : Movement T → Change → List (Movement T) → List (Movement T)
  coming_back m (In n) later = later
  coming_back m (Out n) later = (record { place = m.place; article = m.article; change = In n }) ∷ later

  -- the movements `later`; if the change of m is an `In`, with the opposite of m before them
  abbrev pub going_back : Movement T → Change → List (Movement T) → List (Movement T)
  going_back m (In n) later = (record { place = m.place; article = m.article; change = Out n }) ∷ later
  going_back m (Out n) later = later

  -- an `In` for each `Out` of these movements, in turn
  abbrev pub returns_of : List (Movement T) → List (Movement T)
  returns_of [] = []
  returns_of (m ∷ ms) = coming_back m m.change (returns_of ms)

  -- an `Out` for each `In` of these movements, in turn
  abbrev pub removals_of : List (Movement T) → List (Movement T)
  removals_of [] = []
  removals_of (m ∷ ms) = going_back m m.change (removals_of ms)

  -- the opposite movements: first what comes in, and then what goes out
  abbrev pub opposites_of : List (Movement T) → List (Movement T)
  opposites_of ms = returns_of ms ++ removals_of ms

module _ {T : Type 0} (eq : T → T → Bool) where
  -- the number of this article would be below zero after the batch is taken back
  abbrev pub FallsBelowZero : (T → ℕ) → List (Movement T) → T → Type 0
  FallsBelowZero stock batch v = stock v + went eq v batch < came eq v batch

  -- the undo is done, and the balance is the stock `before` again
  abbrev pub IsAsBefore : Undo T → (T → ℕ) → Type 0
  IsAsBefore (Done booked) before = (v : T) → listed eq booked.balance.items v ≡ before v
  IsAsBefore (Refused refusals) before = ⊥

  -- an undo that is `Done` has the entries of all opposite movements, and an undo that is `Refused` has their refusals
  abbrev pub EntersOrRefuses : List (T × ℕ) → List (Movement T) → Undo T → Type 0
  EntersOrRefuses L batch (Done booked) = booked.entries.items ≡ entries_of eq (listed eq L) (opposites_of batch)
  EntersOrRefuses L batch (Refused refusals) = refusals.items ≡ refused_of eq (listed eq L) (opposites_of batch)

  module _ (cmp : T → T → Ordering) (stock : T → ℕ) (batch : List (Movement T)) where
    -- the batch is taken back: what it took out is there again, and what it brought in is gone
    pub record TakesBack (left : List (T × ℕ)) : Type 0 where
      pub counts : (v : T) → listed eq left v + came eq v batch ≡ stock v + went eq v batch
      pub balance : IsBalance eq cmp (λ v. stock v + went eq v batch - came eq v batch) left

    -- either the batch is taken back, or the undo is `Refused`, because an article would fall below zero
    abbrev pub IsUndo : Undo T → Type 0
    IsUndo (Done booked) = TakesBack booked.balance.items
    IsUndo (Refused refusals) = (v : T) × FallsBelowZero stock batch v

-- while the opposites of a batch are entered, no total passes the greatest number of a database
abbrev pub OppositesFit : List (String Global × ℕ) → List (Movement (String Global)) → Type 0
OppositesFit kept batch = (p : Place) → ¬ (IsPastWithin string_eq (2 ^ 63 - 1) kept (opposites_of batch) p)

-- the rows of the balance that an undo leaves are in ascending order
abbrev pub HasRisingRows : Undo (String Global) → Type 0
HasRisingRows (Done booked) = Rises booked.balance.items
HasRisingRows (Refused refusals) = Unit {0}

-- the changes turn the rows of the kept balance into the rows that the undo leaves; no changes if the undo is `Refused`
abbrev pub IsChangedBy : List (String Global × ℕ) → Undo (String Global) → List RowChange → Type 0
IsChangedBy kept (Done booked) changed = AreChanges kept booked.balance.items changed
IsChangedBy kept (Refused refusals) changed = changed ≡ []

-- the same, if the kept balance and the balance that the undo leaves have their rows in ascending order
abbrev pub IsChangedIfRising : List (String Global × ℕ) → Undo (String Global) → List RowChange → Type 0
IsChangedIfRising kept undo changed = Rises kept → HasRisingRows undo → IsChangedBy kept undo changed

-- if the batch turned the stock `before` into the kept balance, the undo leaves `before` again
abbrev pub RestoresWhatWas : List (String Global × ℕ) → List (Movement (String Global)) → Undo (String Global) → Type 0
RestoresWhatWas kept batch undo =
    (before : String Global → ℕ) → ((v : String Global) → listed string_eq kept v + went string_eq v batch ≡ before v + came string_eq v batch) → IsAsBefore string_eq undo before

-- What it is that a stock agrees with its movements.
use Rattle.std.specs.Prelude.{◌≡◌, ℕ, ◌^◌, ◌-◌, List, [], map, String}
use Rattle.std.specs.Global.{Global}
use Rattle.hashbag_ledger_db.specs.declared.verifying.Kept.{Kept}
use Rattle.hashbag_ledger_db.specs.declared.verifying.Verdict.{Verdict}
use Rattle.hashbag_ledger_db.specs.declared.verifying.Verdict.TheVariants.{Agrees, Differs}
use Rattle.hashbag_ledger_lib.specs.Bookings.{HasBooked}
use Rattle.hashbag_ledger_lib.specs.Entries.{refusals_in}
use Rattle.hashbag_ledger_lib.specs.Kinds.{batch_number, numbers_of}
use Rattle.hashbag_ledger_lib.specs.Rows.{kept_of, rows_of}
use Rattle.hashbag_ledger_lib.specs.Seals.{AreSealed}
use Rattle.hashbag_ledger_lib.specs.declared.extras.Extra.{Extra}
use Rattle.hashbag_ledger_lib.specs.declared.ledger.booking.Booked.{Booked}
use Rattle.hashbag_ledger_lib.specs.declared.once.Batch.{Batch}
use Rattle.hashbag_ledger_lib.specs.declared.verifying.KeptRefusal.{KeptRefusal}

-- what is kept is what was booked: the balance and the refusals, and each batch has the seal of its row, its movements, and their dates and notes
pub record AreAsBooked (scale : ℕ) (batches : List Batch) (balance : List (String Global × ℕ)) (refusals : List KeptRefusal) (extras : List Extra) (booked : Booked (String Global)) : Type 0 where
  pub rows : rows_of balance ≡ rows_of booked.balance.items
  pub seals : AreSealed scale batches booked.entries.items extras
  pub refused : refusals ≡ map kept_of (refusals_in booked.entries.items)

-- a stock agrees with its movements: the batches have them all, in turn, and if they are entered again, in turn, into an empty stock, what is kept is
-- what is booked
pub record AgreesWithMovements (scale : ℕ) (kept : Kept) : Type 0 where
  pub batches : map batch_number kept.movements.items ≡ numbers_of kept.batches.items
  pub booked : Booked (String Global)
  pub again : HasBooked (2 ^ 63 - 1) [] (map (λ m. m.movement) kept.movements.items) booked
  pub same : AreAsBooked scale kept.batches.items kept.balance.items kept.refusals.items (map (λ m. m.extra) kept.movements.items) booked

-- if the verdict is that a stock agrees, it does
abbrev pub IsTrueOf : ℕ → Kept → Verdict → Type 0
IsTrueOf scale kept (Agrees text) = AgreesWithMovements scale kept
IsTrueOf scale kept (Differs text) = Unit {0}

-- A stock that agrees with its movements.
use Rattle.std.proofs.Common.{◌≡◌, ℕ, ◌^◌, ◌-◌, List, [], map, String, Global, subst}
use Rattle.hashbag_ledger_db.specs.Verified.{AgreesWithMovements, AreAsBooked}
use Rattle.hashbag_ledger_db.specs.declared.verifying.Kept.{Kept}
use Rattle.hashbag_ledger_lib.specs.Bookings.{HasBooked}
use Rattle.hashbag_ledger_lib.specs.Kinds.{batch_number, numbers_of}
use Rattle.hashbag_ledger_lib.specs.declared.extras.Extra.{Extra}
use Rattle.hashbag_ledger_lib.specs.declared.ledger.booking.Booked.{Booked}
use Rattle.hashbag_ledger_lib.specs.declared.movements.Movement.{Movement}

pub agrees : (scale : ℕ) (kept : Kept) (booked : Booked (String Global)) (start : List (String Global × ℕ)) (ms : List (Movement (String Global))) (xs : List Extra) → start ≡ []
    → ms ≡ map (λ m. m.movement) kept.movements.items → xs ≡ map (λ m. m.extra) kept.movements.items → map batch_number kept.movements.items ≡ numbers_of kept.batches.items
    → HasBooked (2 ^ 63 - 1) start ms booked → AreAsBooked scale kept.batches.items kept.balance.items kept.refusals.items xs booked → AgreesWithMovements scale kept
agrees scale kept booked start ms xs none are extras batches again same = record {
  batches = batches;
  booked = booked;
  again = subst (λ (l : List (Movement (String Global))). HasBooked (2 ^ 63 - 1) [] l booked) are (subst (λ (l : List (String Global × ℕ)). HasBooked (2 ^ 63 - 1) l ms booked) none again);
  same = subst (λ (l : List Extra). AreAsBooked scale kept.batches.items kept.balance.items kept.refusals.items l booked) extras same;
}

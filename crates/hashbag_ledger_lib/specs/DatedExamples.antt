-- Which movements count on a day, and the differences of what came and what went, by computing.
use Rattle.std.specs.Prelude.{◌≡◌, true, false, codes, refl}
use Rattle.hashbag_ledger_lib.specs.Dated.{counts_by, net}
use Rattle.hashbag_ledger_lib.specs.declared.movements.Change.TheVariants.{In, Out}
use Rattle.hashbag_ledger_lib.specs.declared.movements.Outcome.TheVariants.{Entered, Refused}

the_day_itself : counts_by (codes "2026-01-31") (Entered 3) (codes "2026-01-31") ≡ true
the_day_itself = refl

a_later_day : counts_by (codes "2026-01-31") (Entered 3) (codes "2026-02-01") ≡ false
a_later_day = refl

-- a refused movement counts on no day
refused : counts_by (codes "2026-01-31") (Refused 3) (codes "2026-01-01") ≡ false
refused = refl

below_zero : net 2 5 ≡ Out 3
below_zero = refl

above_zero : net 5 2 ≡ In 3
above_zero = refl

-- Totals and rows, by computing.
use Rattle.std.specs.Prelude.{◌≡◌, ℕ, [], ◌∷◌, codes, refl}
use Rattle.hashbag_ledger_lib.specs.declared.movements.Change.TheVariants.{Out}
use Rattle.hashbag_ledger_lib.specs.Ledger.{ChangesTotal}
use Rattle.hashbag_ledger_lib.specs.Rows.{lower_row_of}

-- of two items one goes out
one_out : ChangesTotal {T = ℕ} (Out 1) (7 ∷ 7 ∷ []) (7 ∷ [])
one_out = refl

-- the lower article is bolt: the first row isn't of bolt, so bolt has 0 there
comes_first : lower_row_of (codes "nut", 2) (codes "bolt", 3) ≡ (codes "bolt", 0, 3)
comes_first = refl

same_article : lower_row_of (codes "nut", 2) (codes "nut", 3) ≡ (codes "nut", 2, 3)
same_article = refl

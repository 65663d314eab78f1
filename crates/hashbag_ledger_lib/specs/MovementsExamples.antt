-- The movements of records, by computing.
use Rattle.std.specs.Prelude.{◌≡◌, ℕ, ◌^◌, ◌-◌, List, [], ◌∷◌, codes, refl}
use Rattle.std.proofs.Common.{arith}
use Rattle.hashbag_csv.specs.Readers.{Record}
use Rattle.hashbag_csv.specs.declared.scale.Mark.TheVariants.{Point}
use Rattle.hashbag_csv.specs.declared.scale.Scale.{Scale}
use Rattle.hashbag_ledger_lib.specs.declared.movements.Change.TheVariants.{In, Out}
use Rattle.hashbag_ledger_lib.specs.declared.reading.ChangeColumns.TheVariants.{Signed, ByKind}
use Rattle.hashbag_ledger_lib.specs.declared.reading.Columns.{Columns}
use Rattle.hashbag_ledger_lib.specs.Movements.{movements_under}

abbrev tenths : Scale
tenths = record { decimals = 1; mark = Point; most = 2 ^ 64 - 1; few = omega arith }

abbrev by_sign : Columns (List ℕ)
by_sign = record { article = codes "a"; change = Signed (codes "n") }

abbrev by_kind : Columns (List ℕ)
by_kind = record { article = codes "a"; change = ByKind (codes "k") (codes "n") }

abbrev row : List ℕ → List ℕ → Record
row a b = a ∷ b ∷ []

abbrev row_of_three : List ℕ → List ℕ → List ℕ → Record
row_of_three a b c = a ∷ b ∷ c ∷ []

-- columns may be in any order, and an article may occur more than once
signs : movements_under tenths by_sign (row (codes "n") (codes "a") ∷ row (codes "5") (codes "nut") ∷ row (codes "-1.5") (codes "nut") ∷ row (codes "+2") (codes "x") ∷ [])
    ≡ (codes "nut", In 50) ∷ (codes "nut", Out 15) ∷ (codes "x", In 20) ∷ []
signs = refl

kinds : movements_under tenths by_kind (row_of_three (codes "a") (codes "k") (codes "n") ∷ row_of_three (codes "x") (codes "in") (codes "0.5") ∷ row_of_three (codes "x") (codes "out") (codes "3") ∷ [])
    ≡ (codes "x", In 5) ∷ (codes "x", Out 30) ∷ []
kinds = refl

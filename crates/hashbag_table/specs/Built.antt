-- The number that a `Built` stands for. `Sum'` has a snapshot of the sum before, if there is one (`None'`, `Some'`), and what was added.
-- `Held-Sum-before` is the type of that optional snapshot.
use Rattle.std.specs.Prelude.{ℕ, ◌+◌}
use Rattle.hashbag_table.specs.declared.built.Sum.{Sum, Sum', Held-Sum-before, None', Some'}

abbrev mutual
  pub sum_of : Sum → ℕ
  sum_of (Sum' before more) = sum_before before + more

  pub sum_before : Held-Sum-before → ℕ
  sum_before None' = 0
  sum_before (Some' s b) = sum_of b

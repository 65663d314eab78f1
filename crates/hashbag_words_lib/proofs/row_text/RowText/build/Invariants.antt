use Rattle.std.proofs.Common.{◌≡◌, ◌++◌, ◌-◌, length}
use Rattle.hashbag_words_lib.specs.RowText.{rows_left_in}
use Rattle.hashbag_words_lib.proofs.row_text.RowText.build.Given as goal

-- the part grows by what is no longer left
abbrev pub invariant-rows : goal.invariant-rows
invariant-rows l = (l.self.part.items ++ rows_left_in l.self ≡ l.fn.self.part.items ++ rows_left_in l.fn.self) × (l.self.read ≡ l.fn.self.read)

abbrev pub decreases-rows : goal.decreases-rows
decreases-rows l = length l.self.rows.items - l.self.built

use Rattle.std.proofs.Common.{◌≡◌, map, take}
use Rattle.hashbag_ledger_db.specs.Filed.{input_rows}
use Rattle.hashbag_ledger_lib.specs.Movements.{content_of, names_now}
use Rattle.hashbag_ledger_db.proofs.entering.all_movements.Given as goal

-- the movements of the inputs so far
abbrev pub invariant-loop-i : goal.invariant-loop-i
invariant-loop-i l = map (λ f. map content_of f.items) l.files.items ≡ map (input_rows l.job l.reading (names_now l.columns)) (take l.i l.inputs)

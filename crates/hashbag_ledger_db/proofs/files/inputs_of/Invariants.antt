use Rattle.std.proofs.Common.{◌≡◌, ◌++◌, true, false, All, map, take}
use Rattle.std.specs.Option.{option_to_list}
use Rattle.hashbag_ledger_db.specs.Inputs.{name_and_kind, IsRead}
use Rattle.hashbag_ledger_db.proofs.files.inputs_of.Given as goal

-- so far the inputs are the stock at the beginning and the first files
abbrev pub invariant-loop-file : goal.invariant-loop-file
invariant-loop-file g l =
    (map name_and_kind l.inputs.items ≡ map (λ file. (file.now, true)) (option_to_list l.fn.job.from) ++ map (λ file. (file.now, false)) (take l.file-index l.fn.job.files.items))
    × All (IsRead (g.I.Inputs.gives l.fn.files) l.fn.job) l.inputs.items

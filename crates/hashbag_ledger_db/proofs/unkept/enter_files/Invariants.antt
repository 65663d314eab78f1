use Rattle.std.proofs.Common.{take}
use Rattle.hashbag_ledger_db.specs.Unkept.{EntersFiles}
use Rattle.hashbag_ledger_db.proofs.unkept.enter_files.Given as goal

-- the movements of the first files came to the ledger
abbrev pub invariant-loop-i : goal.invariant-loop-i
invariant-loop-i g l = EntersFiles (g.I.Inputs.gives l.fn.inputs) l.fn.settings (take l.i l.fn.settings.files.items) l.fn.ledger l.ledger

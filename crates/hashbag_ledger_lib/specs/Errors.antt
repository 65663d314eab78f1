-- The error of a movement with which a total would pass its limit.
use Rattle.std.specs.Prelude.{◌≡◌, Result, IfErr}
use Rattle.hashbag_ledger_lib.specs.declared.entering.LedgerError.{LedgerError}
use Rattle.hashbag_ledger_lib.specs.declared.entering.LedgerError.TheVariants.{TooMany}
use Rattle.hashbag_ledger_lib.specs.declared.movements.Place.{Place}

-- if the result is the error `TooMany p`, P holds of the place p
abbrev pub IfTooMany : {T : Type 0} → Result T LedgerError → (Place → Type 0) → Type 0
IfTooMany result P = IfErr result (λ e. (p : Place) → e ≡ TooMany p → P p)

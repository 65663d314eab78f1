-- The values of a row, one after the other.
use Rattle.std.proofs.Common.{◌≡◌, ℕ, List, ◌∷◌, Bool, ap, subst, ◌∙◌}
use Rattle.sqlite.specs.Held.{Held}
use Rattle.sqlite.specs.Order.{Row}
use Rattle.sqlite.specs.Store.{Ghosts}
use Rattle.sqlite.specs.declared.types.Value.{Value}
use Rattle.hashbag_ledger_db.specs.Commits.{IsStep}

pub next : {v w : Value} {r s : Row} → v ≡ w → r ≡ s → v ∷ r ≡ w ∷ s
next {v} {w} {r} {s} first rest = ap (λ (x : Value). x ∷ r) first ∙ ap (λ (l : Row). w ∷ l) rest

-- a step with other words for its parameters
pub with_row : {S : Type 0} (g : Ghosts S) (is_done : Bool) (text : List ℕ) (row same : Row) (old new : Held S) → IsStep g is_done (text, row) old new → row ≡ same → IsStep g is_done (text, same) old new
with_row g is_done text row same old new step is = subst (λ (r : Row). IsStep g is_done (text, r) old new) is step

use Rattle.std.proofs.Common.{◌≡◌, subst, IfOk, List, ℕ}
use Rattle.std.specs.Borrow.{Bor}
use Rattle.hashbag_ledger_db.specs.Unkept.{refusals_rows}
use Rattle.hashbag_ledger_db.proofs.unkept.refusals_csv.Goals as goal

pub returns : goal.returns
returns c =
    subst (λ (files : List (Bor (List ℕ))). IfOk c.rows_text.result (λ text. text.items ≡ refusals_rows c.args.settings.now.reading files c.args.named.now))
    c.as_slice.ensures.value c.rows_text.ensures

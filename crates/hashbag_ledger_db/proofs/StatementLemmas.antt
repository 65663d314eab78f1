-- Statements that are listed, one after the other.
use Rattle.std.proofs.Common.{◌≡◌, List, [], ◌∷◌, ◌++◌, ◌∙◌}
use Rattle.std.proofs.lemmas.List.{append_assoc, map-append}
use Rattle.hashbag_ledger_db.specs.Statements.{Run, run_of, runs_of}
use Rattle.hashbag_ledger_db.specs.declared.stock.statements.Statement.{Statement}

-- one more statement
pub one_more : (list : List Statement) (s : Statement) → runs_of (list ++ s ∷ []) ≡ runs_of list ++ run_of s ∷ []
one_more list s = map-append run_of list (s ∷ [])

-- a batch, and then its movements and what follows
pub next_batch : (before : List Run) (batch : Run) (own rest : List Run) → ((before ++ batch ∷ []) ++ own) ++ rest ≡ before ++ ((batch ∷ own) ++ rest)
next_batch before batch own rest = append_assoc (before ++ batch ∷ []) own rest ∙ append_assoc before (batch ∷ []) (own ++ rest)

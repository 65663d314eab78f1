use Rattle.std.proofs.Common.{ℕ, Bor, List, ◌∙◌, ap}
use Rattle.std.specs.Map.{keys_of}
use Rattle.hashbag_ledger_lib.proofs.DatedLemmas.{is_balance}
use Rattle.hashbag_ledger_lib.proofs.dated.balance_at.Goals as goal

-- each article that moved has its row
pub returns : goal.returns
returns g c =
    is_balance c.args.date.now c.args.entries.now c.in_ok-came.came.items c.in_ok-went.went.items c.in_ok-all.all.items c.in_ok-in_list.in_list.items c.in_ok-out_list.out_list.items c.in_ok-list.list.items
    c.in_ok-articles.articles.items c.in_ok-rows_of.field-0.items (c.in_ok-came.ensures, c.in_ok-in_list.ensures) (c.in_ok-went.ensures, c.in_ok-out_list.ensures) (c.in_ok-all.ensures, c.in_ok-list.ensures)
    c.in_ok-articles.ensures.balance (c.in_ok-rows_of.ensures.keys ∙ ap (λ (l : List (Bor (List ℕ) × ℕ)). keys_of l) c.deref.ensures.value) c.in_ok-rows_of.ensures.numbers

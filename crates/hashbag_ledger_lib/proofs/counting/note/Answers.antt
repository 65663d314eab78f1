use Rattle.std.proofs.Common.{Bool, ◌+◌, cond, ◌∙◌, ap}
use Rattle.std.specs.String.{string_eq, string_eq_equiv}
use Rattle.hashbag_core.proofs.CallerLemmas.{count_inserted_any}
use Rattle.hashbag_ledger_lib.specs.Ledger.{stock_of}
use Rattle.hashbag_ledger_lib.proofs.BookLemmas.{text_same}
use Rattle.hashbag_ledger_lib.proofs.CountLemmas.{named_by_copy}
use Rattle.hashbag_ledger_lib.proofs.counting.note.Goals as goal

pub returns-in-Ok : goal.returns-in-Ok
returns-in-Ok g c = λ v.
    let x = c.args.movement.now.article in
    let a = c.in_ok-clone.field-0 in
    count_inserted_any string_eq_equiv c.args.named.now c.insert.new.self v a 1 c.in-Ok.ensures.inserted.added
    ∙ ap (λ (b : Bool). stock_of string_eq c.args.named.now.items v + cond b 1 0) (named_by_copy string_eq string_eq_equiv x a (text_same x a c.in_ok-clone.ensures.cases) v)

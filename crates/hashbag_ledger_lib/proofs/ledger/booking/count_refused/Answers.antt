use Rattle.std.proofs.Common.{◌≡◌, ◌+◌, ◌∷◌, ◌++◌, [], List, length, take, sym, ◌∙◌, ap, arith}
use Rattle.std.proofs.lemmas.List.{take_all, take_more, length-append}
use Rattle.hashbag_ledger_lib.specs.declared.movements.Entry.{Entry}
use Rattle.hashbag_ledger_lib.specs.Entries.{refusals_in}
use Rattle.hashbag_ledger_lib.proofs.BookLemmas.{refusals_more}
use Rattle.hashbag_ledger_lib.proofs.ledger.booking.count_refused.Goals as goal

-- one more
pub loop-entry-preserved : goal.loop-entry-preserved
loop-entry-preserved g c =
    let at = c.loop-entry in
    let all = c.args.entries.now in
    let e = c.entry-item.result in
    let so_far = take at.entry-index all in
    let next : take (at.entry-index + 1) all ≡ so_far ++ e ∷ [] = take_more all at.entry-index e c.loop-entry-test.true ∙ ap (λ (x : Entry g.row.T.Denot). so_far ++ x ∷ []) (sym c.entry-item.is) in
    let more = ap (λ (l : List (Entry g.row.T.Denot)). length (refusals_in l)) next ∙ ap length (refusals_more so_far e) ∙ length-append (refusals_in so_far) (refusals_in (e ∷ [])) in
    let counted = at.invariant.counted in
    let one = c.refused_once-refused.ensures.counted in
    let few = c.refused_once-refused.ensures.few in
    let fewer = at.invariant.few in
    record { counted = omega arith; few = omega arith }

-- all have been counted
pub returns : goal.returns
returns g c =
    let at = c.loop-entry in
    at.invariant.counted ∙ ap (λ (l : List (Entry g.row.T.Denot)). length (refusals_in l)) (take_all at.entry-index c.args.entries.now (omega arith))

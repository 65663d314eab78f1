use Rattle.std.proofs.Common.{map}
use Rattle.hashbag_match_lib.proofs.ByteLemmas.{agree_by_bytes, status_by}
use Rattle.hashbag_match_lib.proofs.TextLemmas.{text_by_bytes}
use Rattle.hashbag_match_lib.proofs.texts.match_lists.Goals as goal

-- the lists agree on articles if they do on the bytes of their fields
pub returns-clause-status : goal.returns-clause-status
returns-clause-status g c = λ L M first second. status_by c.status_of-status.ensures (agree_by_bytes g.A.PartialEq.eq g.A.Article.fields g.met.A.Article.same L M first.0 second.0 _ first.1 second.1 (c.in_ok-matched.ensures.agree first.0 second.0 first.2 second.2))

-- the rows are those of the articles that either list names
pub returns-clause-text : goal.returns-clause-text
returns-clause-text g c = λ L M K first second along.
    let shown = rw c.deref-2.ensures.value at (c.in_ok-shown.ensures K along) in
    text_by_bytes g.A.Ord.cmp g.A.Article.fields g.met.A.Article.same first.0 second.0 c.in_ok-matched.matched.rows.items (c.in_ok-matched.ensures.table first.0 second.0 first.2 second.2)
    c.args.ask.now L M K _ _ c.in_ok-matched.matched.totals _ first.1 second.1 shown
    (λ i. record { keys = map (λ n. n.now) (c.deref-3.ensures.value i); carried = map (λ n. n.now) (c.deref-4.ensures.value i); scale = c.args.ask.now.ordered.reading.scale; delimiter = c.args.ask.now.ordered.reading.delimiter })
    c.in_ok-matched.ensures.totals (rw c.deref-5.ensures.value at c.in_ok-text.ensures)

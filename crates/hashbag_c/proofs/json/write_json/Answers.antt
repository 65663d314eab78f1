use Rattle.std.proofs.Common.{ℕ, List, sym, subst, arith}
use Rattle.hashbag_c.specs.Json.{IsJson}
use Rattle.hashbag_c.proofs.json.write_json.Goals as goal

pub returns-in-Ok-clause-json : goal.returns-in-Ok-clause-json
returns-in-Ok-clause-json g c = λ done.
    let holds = subst (λ (t : List ℕ). IsJson g.T.PartialEq.eq g.T.Ord.cmp g.T.JsonItem.tree_of g.T.JsonItem.has_item g.T.JsonItem.reads c.args.bag.now t) (sym c.as_str.ensures.value) c.in-Ok.ensures.json in
    record { text = c.as_str.result.now; holds = holds; long = c.write_text.ensures.long; fits = c.write_text.ensures.fits done; whole = c.write_text.ensures.whole done }

pub returns-in-Ok-clause-too_long : goal.returns-in-Ok-clause-too_long
returns-in-Ok-clause-too_long g c = λ short.
    let holds = subst (λ (t : List ℕ). IsJson g.T.PartialEq.eq g.T.Ord.cmp g.T.JsonItem.tree_of g.T.JsonItem.has_item g.T.JsonItem.reads c.args.bag.now t) (sym c.as_str.ensures.value) c.in-Ok.ensures.json in
    record { text = c.as_str.result.now; holds = holds; long = c.write_text.ensures.long; more = (c.write_text.ensures.short (λ done. absurd (omega (arith, short, done)))).1 }

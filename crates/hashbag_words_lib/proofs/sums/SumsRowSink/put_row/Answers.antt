use Rattle.std.proofs.Common.{ℕ, List, string_bytes, subst}
use Rattle.std.proofs.lemmas.Result.{on_ok_weaker}
use Rattle.hashbag_words_lib.specs.Sums.{IsHeld}
use Rattle.hashbag_words_lib.proofs.SumLemmas.{takes_anyhow}
use Rattle.hashbag_words_lib.proofs.sums.SumsRowSink.put_row.Goals as goal

pub returns-then-holds-clause-row : goal.returns-then-holds-clause-row
returns-then-holds-clause-row g c =
    let held = subst (λ (t : List ℕ). IsHeld c.args.self.now.held t) c.as_str.ensures.value (c.holds.ensures c.if-holds.true) in
    on_ok_weaker c.add_count.result (takes_anyhow g.W.TextOutput.written c.args.self.now _ c.add_count.new.self _) (c.add_count.ensures.row (string_bytes c.args.token) held)

pub returns-clause-row : goal.returns-clause-row
returns-clause-row g c = on_ok_weaker c.begin_row.result (takes_anyhow g.W.TextOutput.written c.args.self.now _ c.begin_row.new.self _) c.begin_row.ensures.row

use Rattle.std.proofs.Common.{ℕ, List, ◌++◌, ◌∙◌, ap}
use Rattle.std.proofs.lemmas.List.{append-nil}
use Rattle.hashbag_words_lib.proofs.SumLemmas.{wrote}
use Rattle.hashbag_words_lib.proofs.sums.Sums.write.Goals as goal

pub returns-in-Ok-clause-same : goal.returns-in-Ok-clause-same
returns-in-Ok-clause-same g c =
    let written = g.W.TextOutput.written c.append.new.self in
    wrote g.W.TextOutput.written c.args.self.now c.append.new.self c.clear.new.self (ap (λ (l : List ℕ). written ++ l) c.clear.ensures.items ∙ append-nil written ∙ c.in-Ok.ensures)

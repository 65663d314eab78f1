use Rattle.std.proofs.Common.{ℕ, List, ◌++◌, ◌∙◌, ap}
use Rattle.hashbag_words_lib.proofs.SumLemmas.{ended_text}
use Rattle.hashbag_words_lib.proofs.sums.Sums.end.Goals as goal

pub returns : goal.returns
returns g c =
    let done = c.end_row.new.self in
    ended_text g.W.TextOutput.written c.args.self.now done c.write.new.self.to c.in_ok-end_row.ensures.row
    (c.in_ok-write.ensures.written ∙ ap (λ (l : List ℕ). g.W.TextOutput.written done.to ++ l) (c.in_ok-extend_from_slice.ensures.items ∙ ap (λ (l : List ℕ). done.part.items ++ l) c.end.ensures))

use Rattle.std.proofs.Common.{ℕ, List, ◌++◌, ◌∙◌, ap, arith}
use Rattle.std.proofs.lemmas.List.{take_all}
use Rattle.hashbag_words_lib.proofs.tape.Tape.push_whole.Goals as goal

pub returns : goal.returns
returns c =
    let block = c.args.block.now in
    c.push.ensures ∙ ap (λ (l : List ℕ). c.args.self.now ++ l) (take_all c.len.result block.items (omega (arith, c.len.ensures, block.ok.0)))

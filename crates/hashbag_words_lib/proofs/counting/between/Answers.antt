use Rattle.std.proofs.Common.{ℕ, List, length, min, slice_range, ◌∙◌, ap, arith}
use Rattle.hashbag_words_lib.proofs.GroupLemmas.{no_part, part_within}
use Rattle.hashbag_words_lib.proofs.counting.between.Goals as goal

pub returns-then-start-end : goal.returns-then-start-end
returns-then-start-end c = no_part c.args.line.now c.args.start c.args.end (search arith)

pub returns : goal.returns
returns c =
    let line = c.args.line.now in
    let bytes = c.as_bytes-bytes.ensures.value in
    let last = c.min-end.ensures ∙ ap (λ (l : List ℕ). min c.args.end (length l)) bytes in
    ap (λ (l : List ℕ). slice_range l c.args.start c.min-end.result) bytes
    ∙ ap (λ (n : ℕ). slice_range line c.args.start n) last
    ∙ part_within line c.args.start c.args.end

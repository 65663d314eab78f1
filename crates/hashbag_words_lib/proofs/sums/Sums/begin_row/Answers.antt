use Rattle.std.proofs.Common.{◌≡◌, ◌∙◌, ℕ, List, Less, true, string_bytes, sym, ap}
use Rattle.std.specs.Global.{Vec}
use Rattle.hashbag_words_lib.specs.Sorted.{text_cmp}
use Rattle.hashbag_words_lib.specs.Sums.{line_start}
use Rattle.hashbag_words_lib.proofs.SumLemmas.{began_row, ends_anyhow}
use Rattle.hashbag_words_lib.proofs.sums.Sums.begin_row.Goals as goal

pub returns-clause-row : goal.returns-clause-row
returns-clause-row g c =
    let old = c.args.self.now in
    let done = c.end_row.new.self in
    let start = c.swap.new.x in
    let put = c.put_start.new.start in
    let now : start ≡ put = c.swap.ensures.x_after ∙ c.end_row.ensures.next in
    let is : start.items ≡ line_start (string_bytes c.args.token) = ap (λ (v : Vec ℕ). v.items) now ∙ c.in_ok-put_start.ensures ∙ ap line_start c.as_bytes.ensures.value in
    let yes : c.is_before.result ≡ true = cc in
    let less : text_cmp done.start.items start.items ≡ Less =
    ap (λ (v : Vec ℕ). text_cmp v.items start.items) c.end_row.ensures.start
    ∙ ap (λ (v : Vec ℕ). text_cmp old.start.items v.items) now
    ∙ sym (ap (λ (l : List ℕ). text_cmp l put.items) c.as_slice.ensures.value)
    ∙ sym (ap (λ (l : List ℕ). text_cmp c.as_slice.result.now l) c.as_slice-2.ensures.value)
    ∙ c.is_before.ensures yes in
    began_row g.W.TextOutput.written old done start c.swap.new.y c.args.token c.args.count (ends_anyhow g.W.TextOutput.written old put done c.in_ok-end_row.ensures.row) is less

use Rattle.std.proofs.Common.{◌<◌, ◌++◌, ℕ, List, length, nat_eq, ◌∙◌, ap, arith}
use Rattle.hashbag_words_lib.specs.Writing.{comma, row_text}
use Rattle.hashbag_words_lib.proofs.RowTextLemmas.{one_more}
use Rattle.hashbag_words_lib.proofs.row_text.RowText.build.Goals as goal

-- a row is built
pub rows-preserved : goal.rows-preserved
rows-preserved c =
    let self = c.rows.self in
    let x = c.index.result.now in
    let lt : self.built < length self.rows.items = omega (arith, self.rows.ok.0, c.len.ensures, c.rows-test.true) in
    let row : List ℕ → List ℕ = λ token. comma self.format (nat_eq self.built 0) ++ row_text self.format (token, x.1) in (
      one_more self.format self.rows.items self.built x self.part.items c.extend_from_slice.new.self.items c.push_in.new.text.items _ lt c.index.ensures
          (c.in_ok-extend_from_slice.ensures.items ∙ ap (λ (l : List ℕ). self.part.items ++ l) c.deref.ensures.value)
          (c.in_ok-push_in.ensures ∙ ap (λ (l : List ℕ). l ++ row c.as_str.result.now) c.clear.ensures.items ∙ ap row c.as_str.ensures.value)
          ∙ c.rows.invariant.0,
      c.rows.invariant.1,
    )

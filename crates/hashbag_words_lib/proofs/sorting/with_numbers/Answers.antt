use Rattle.std.proofs.Common.{◌≡◌, ◌++◌, ◌∷◌, ℕ, [], String, Global, map, sym, ◌∙◌, ap}
use Rattle.std.specs.Borrow.{Bor}
use Rattle.std.proofs.lemmas.List.{append_assoc, map-append}
use Rattle.hashbag_words_lib.specs.Prefix.{bare_row}
use Rattle.hashbag_words_lib.proofs.sorting.with_numbers.Goals as goal

-- one more row is there
pub loop-row-preserved : goal.loop-row-preserved
loop-row-preserved c =
    let made = c.loop-row.made.items in
    let row : ℕ × (Bor (String Global) × ℕ) = (0, c.in-Some.row) in
    let new : c.push.new.self.items ≡ made ++ row ∷ [] = c.in_ok-push.ensures.items in (
      ap (map bare_row) new ∙ map-append bare_row made (row ∷ []) ∙ ap (λ l. l ++ c.in-Some.row ∷ []) c.loop-row.invariant.0,
      append_assoc c.loop-row.yielded (c.in-Some.row ∷ []) c.next.new.self.rest.items ∙ ap (λ l. c.loop-row.yielded ++ l) (sym c.in-Some.ensures.steps.0) ∙ c.loop-row.invariant.1,
    )

use Rattle.std.proofs.Common.{◌≡◌, ◌∙◌, sym}
use Rattle.hashbag_core.specs.Bag.{occurrences}
use Rattle.hashbag_core.specs.Iter.{occurrences_left}
use Rattle.hashbag_core.proofs.WalkLemmas.{steps_to_entry, pending_at_entry, none_left, none_given}
use Rattle.hashbag_core.proofs.iters.IterIterator.next.Goals as goal
use Rattle.hashbag_core.proofs.iters.IterIterator.next.Goals.{in-Some+else-count-gt0, in_default}

pub invariant_of-self-2 : goal.invariant_of-self-2
invariant_of-self-2 g c =
    let at = c.self.inside.at in
    let es = c.self.inside.walk in
    let none : occurrences_left at es ≡ occurrences es = elim c.match-self.branch [
      | in-Some+else-count-gt0 w ↦ none_left at es w.in-Some.value w.in-Some.count w.in-Some.is w.if-count-gt0.false
      | in_default w ↦ none_given at es w.in_default.is
    ] in
    pending_at_entry at es _ c.in_ok-value.value c.in_ok-value.count _ none c.in_ok-value.ensures.steps c.self.invariant

pub returns-clause-steps : goal.returns-clause-steps
returns-clause-steps g c =
    let at = c.self.inside.at in
    let es = c.self.inside.walk in
    let none : occurrences_left at es ≡ occurrences es = elim c.match-self.branch [
      | in-Some+else-count-gt0 w ↦ none_left at es w.in-Some.value w.in-Some.count w.in-Some.is w.if-count-gt0.false
      | in_default w ↦ none_given at es w.in_default.is
    ] in
    sym c.self.view_is ∙ steps_to_entry at es _ c.in_ok-value.value c.in_ok-value.count _ none c.in_ok-value.ensures.steps c.self.invariant

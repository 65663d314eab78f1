use Rattle.std.proofs.Common.{◌≡◌, ◌==◌, ◌%◌, ◌&&◌, ◌||◌, ℕ, Bool, true, not, length, sym, ◌∙◌, ap}
use Rattle.std.specs.List.{list_all}
use Rattle.hashbag_csv.specs.Groups.{marks_fit}
use Rattle.hashbag_csv.proofs.GroupLemmas.{none_less}
use Rattle.hashbag_csv.proofs.groups.digits_of.Goals as goal

-- a text without the mark
pub returns-then-has_none : goal.returns-then-has_none
returns-then-has_none c =
    let g = c.args.group in
    let whole = c.args.whole.now in
    let none : list_all (λ c. not (c == g)) whole ≡ true = sym (c.has_none.ensures ∙ ap (list_all (λ (c : ℕ). not (c == g))) c.as_bytes.ensures.value) ∙ c.if-has_none.true in
    (ap (λ (b : Bool). b || (not (length whole % 4 == 0) && marks_fit g whole)) none, c.in_ok-from_str.ensures.ok ∙ sym (none_less g whole none))

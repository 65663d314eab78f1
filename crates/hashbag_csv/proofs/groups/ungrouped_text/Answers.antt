use Rattle.std.proofs.Common.{sym, ap, ◌∙◌}
use Rattle.hashbag_csv.specs.Groups.{read_for}
use Rattle.hashbag_csv.proofs.GroupLemmas.{read_plain}
use Rattle.hashbag_csv.proofs.groups.ungrouped_text.Goals as goal

-- no-break spaces are read as spaces
pub returns-in-NoBreak : goal.returns-in-NoBreak
returns-in-NoBreak c =
    let read = c.as_str.ensures.value ∙ c.in_ok-read-in-NoBreak.ensures ∙ sym (ap (λ g. read_for g c.args.text.now) c.in-NoBreak.is) in
    rw (c.byte.ensures.byte, read) at c.ungrouped.ensures

-- any other text is read as it is
pub returns-in_default : goal.returns-in_default
returns-in_default c =
    rw (c.byte-in_default.ensures.byte, ← read_plain c.args.group c.args.text.now c.in_default.not-NoBreak) at c.ungrouped-in_default.ensures

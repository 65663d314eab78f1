use Rattle.std.proofs.Common.{sym, ◌∙◌}
use Rattle.hashbag_match_lib.proofs.texts.carry_lines.Goals as goal

-- the names that are passed on are those of the request, which names some
pub returns : goal.returns
returns g c K before v =
    let named = sym c.is_empty.ensures ∙ c.if-is_empty.false in
    rw named (rw (c.deref.ensures.value, c.deref-2.ensures.value) at (c.in_ok-add_first_lines.ensures K before v))

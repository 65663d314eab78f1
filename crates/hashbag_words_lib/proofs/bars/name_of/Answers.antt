use Rattle.std.proofs.Common.{map, sym, ap, ◌∙◌, map-id}
use Rattle.std.proofs.lemmas.Iterator.{YieldsList-from_chars}
use Rattle.std.proofs.lemmas.Iterator.Consumers.{YieldsList-end}
use Rattle.hashbag_words_lib.specs.Bars.{shown_char}
use Rattle.hashbag_words_lib.proofs.bars.name_of.Goals as goal

pub returns : goal.returns
returns c =
    let end = YieldsList-end (YieldsList-from_chars c.args.token.now c.utf8.token cc) c.loop-c.yielded _ c.loop-c.yielded_by _ _ c.in-None.is c.next.ensures.steps in
    c.loop-c.invariant ∙ ap (map shown_char) (sym (map-id c.loop-c.yielded) ∙ end.0)

use Rattle.std.proofs.Common.{◌++◌, encode_utf8, encode_utf8_all, map, sym, ap, ◌∙◌, map-id}
use Rattle.std.proofs.lemmas.Iterator.{YieldsList-from_chars}
use Rattle.std.proofs.lemmas.Iterator.Consumers.{YieldsList-end}
use Rattle.hashbag_csv.specs.Groups.{spaced}
use Rattle.hashbag_csv.proofs.GroupLemmas.{spaced_more}
use Rattle.hashbag_csv.proofs.groups.with_spaces.Goals as goal

-- a character more
pub loop-character-preserved : goal.loop-character-preserved
loop-character-preserved c =
    let so_far = c.loop-character.yielded in
    c.in_ok-push.ensures.bytes ∙ ap (λ l. l ++ encode_utf8 c.spaced.result) c.loop-character.invariant
    ∙ ap (λ d. encode_utf8_all (map spaced so_far) ++ encode_utf8 d) c.spaced.ensures ∙ sym (spaced_more so_far c.in-Some.character)

-- all characters were yielded
pub returns : goal.returns
returns c =
    let end = YieldsList-end (YieldsList-from_chars c.args.text.now c.utf8.text cc) c.loop-character.yielded _ c.loop-character.yielded_by _ _ c.in-None.is c.next.ensures.steps in
    c.loop-character.invariant ∙ ap (λ cs. encode_utf8_all (map spaced cs)) (sym (map-id c.loop-character.yielded) ∙ end.0)

use Rattle.std.proofs.Common.{refl}
use Rattle.std.proofs.lemmas.Result.{IfOk-weaker}
use Rattle.hashbag_csv.proofs.EscapedLemmas.{shown_few, shown_many}
use Rattle.hashbag_csv.proofs.escaped.shown.Goals as goal

-- the first 60 characters
pub returns-in-Some : goal.returns-in-Some
returns-in-Some c =
    IfOk-weaker c.format.result _ _
    (λ text is. shown_many 60 c.args.field.now c.range.result.now _ c.char_indices.result c.nth.new.self (c.in-Some.end, c.in-Some.field-0-1) c.utf8.field c.range.utf8 c.char_indices.ensures.rest c.char_indices.ensures.offset c.in-Some.ensures.ran c.range.ensures.value refl is)
    c.format.ensures.ok

-- the whole field
pub returns-in-None : goal.returns-in-None
returns-in-None c =
    IfOk-weaker c.format-in-None.result _ _ (λ text is. shown_few 60 c.args.field.now _ c.char_indices.result c.nth.new.self c.utf8.field c.char_indices.ensures.rest c.in-None.ensures.ran refl is)
    c.format-in-None.ensures.ok

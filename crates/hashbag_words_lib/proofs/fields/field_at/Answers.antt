use Rattle.std.proofs.Common.{rules, refl}
use Rattle.hashbag_words_lib.proofs.fields.field_at.Goals as goal

pub parts-init : goal.parts-init
parts-init c = (search rules, refl)

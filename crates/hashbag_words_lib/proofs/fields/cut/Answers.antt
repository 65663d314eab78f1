use Rattle.std.proofs.Common.{◌≡◌, ℕ, List, ◌∷◌, [], Option, sym, subst}
use Rattle.std.specs.Borrow.{Bor}
use Rattle.hashbag_words_lib.specs.Fields.{IsCut}
use Rattle.hashbag_words_lib.specs.declared.rule.Separator.{Separator}
use Rattle.hashbag_words_lib.specs.declared.rule.Separator.TheVariants.{Blanks, Char}
use Rattle.hashbag_words_lib.proofs.FieldLemmas.{cut_at_any, cut_at_char}
use Rattle.hashbag_words_lib.proofs.fields.cut.Goals as goal

by_separator : (r : Option (Bor (List ℕ) × Bor (List ℕ))) (bs : List ℕ) (separator is : Separator) → separator ≡ is → IsCut is bs r → IsCut separator bs r
by_separator r bs separator is e h = subst (λ (s : Separator). IsCut s bs r) (sym e) h

pub returns-in-Blanks : goal.returns-in-Blanks
returns-in-Blanks c =
    by_separator c.split_once.result c.args.text.now c.args.separator Blanks c.in-Blanks.is (cut_at_any (32 ∷ 9 ∷ []) c.args.text.now c.split_once.result c.utf8.text c.split_once.ensures.cases)

pub returns-in-Char : goal.returns-in-Char
returns-in-Char c =
    by_separator c.split_once-in-Char.result c.args.text.now c.args.separator (Char c.in-Char.c) c.in-Char.is (cut_at_char c.in-Char.c c.args.text.now c.split_once-in-Char.result c.utf8.text c.split_once-in-Char.ensures.cases)

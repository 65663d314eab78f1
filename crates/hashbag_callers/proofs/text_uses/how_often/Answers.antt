use Rattle.std.proofs.Common.{◌∙◌, string_bytes}
use Rattle.std.specs.Str.{bytes_eq}
use Rattle.std.specs.Cmp.Lexicographic.{bytes_decides}
use Rattle.std.specs.String.{string_eq_equiv}
use Rattle.hashbag.proofs.CallerLemmas.{count_of_key, text_names_one}
use Rattle.hashbag_callers.proofs.text_uses.how_often.Goals as goal

-- the word names the `String` with its bytes
pub returns : goal.returns
returns g c v same =
    c.contains.ensures.count
    ∙ count_of_key string_eq_equiv v (λ w. bytes_eq (string_bytes w) c.args.word.now) (text_names_one c.args.word.now) ((bytes_decides (string_bytes v) c.args.word.now).1 same) c.args.bag.now.items

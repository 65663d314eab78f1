use Rattle.std.proofs.Common.{◌∙◌, ap}
use Rattle.hashbag_words_lib.specs.Prefix.{lead}
use Rattle.hashbag_words_lib.proofs.DepthLemmas.{drop_none}
use Rattle.hashbag_words_lib.proofs.sorting.prefix.Goals as goal

pub returns : goal.returns
returns c = record { value = c.word.ensures.value ∙ ap (lead 0 8) (drop_none c.args.text.now); bytes = c.word.ensures.bytes }

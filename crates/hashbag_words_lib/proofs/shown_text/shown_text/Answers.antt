use Rattle.std.proofs.Common.{map}
use Rattle.hashbag_core.specs.Walks.{seen}
use Rattle.hashbag_words_lib.specs.RowText.{bytes_left}
use Rattle.hashbag_words_lib.specs.Writing.{text_of}
use Rattle.hashbag_words_lib.proofs.ShownLemmas.{is_shown_as}
use Rattle.hashbag_words_lib.proofs.shown_text.shown_text.Goals as goal

-- the rows that were chosen are written
pub returns : goal.returns
returns g c texts kept = is_shown_as c.args.choice c.args.bag.now texts kept (text_of c.args.format) (map seen c.in_ok-rows.rows.items) (bytes_left c.in_ok-text.text) c.in_ok-rows.ensures c.in_ok-text.ensures

use Rattle.std.proofs.Common.{map}
use Rattle.hashbag_core.specs.Walks.{seen}
use Rattle.hashbag_words_lib.specs.Bars.{bars_text}
use Rattle.hashbag_words_lib.proofs.ShownLemmas.{is_shown_as}
use Rattle.hashbag_words_lib.proofs.shown_text.shown_bars.Goals as goal

-- the rows that were chosen are written
pub returns : goal.returns
returns g c texts kept = is_shown_as c.args.choice c.args.bag.now texts kept (bars_text c.args.width) (map seen c.in_ok-rows.rows.items) c.in_ok-text.text.items c.in_ok-rows.ensures (rw (← c.deref.ensures.value) c.in_ok-text.ensures)

use Rattle.std.proofs.Common.{◌≡◌, ◌+◌, drop}
use Rattle.hashbag_words_lib.specs.Bars.{fitting}
use Rattle.hashbag_words_lib.proofs.bars.fitting.Given as goal

-- those so far fit
abbrev pub invariant-characters : goal.invariant-characters
invariant-characters l = l.i + fitting l.left (drop l.i l.name) ≡ fitting l.fn.room l.name
